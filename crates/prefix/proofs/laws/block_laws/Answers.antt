-- Every block is a prefix by one test of the table, and the test of an address finds one.
use Rattle.prefix.specs.Blocks.{blocks}
use Rattle.prefix.proofs.Tables.{blocks-valid, some_decides}
use Rattle.prefix.proofs.laws.block_laws.Goals as goal

pub returns-clause-blocks : goal.returns-clause-blocks
returns-clause-blocks c = blocks-valid

pub returns-clause-blocked : goal.returns-clause-blocked
returns-clause-blocked c = some_decides 32 blocks
