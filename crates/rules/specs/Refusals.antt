-- The numbers of the refusals.
use Rattle.std.specs.Prelude.{ℕ}
use Rattle.rules.specs.declared.refusal.Refusal.{Refusal}
use Rattle.rules.specs.declared.refusal.Refusal.TheVariants.{ShortList, Backwards, AlreadyMade, DefaultRange, NotHeld, BatchFull, Full, Conflict, Uncovered, Ambiguous, BadPrefix, UnknownRecord, FeedEnds, BadCount, NotAChange, ShortBuffer}

abbrev pub number : Refusal → ℕ
number ShortList = 1
number Backwards = 2
number AlreadyMade = 3
number DefaultRange = 4
number NotHeld = 5
number BatchFull = 6
number Full = 7
number Conflict = 8
number Uncovered = 9
number Ambiguous = 10
number BadPrefix = 11
number UnknownRecord = 12
number FeedEnds = 13
number BadCount = 14
number NotAChange = 15
number ShortBuffer = 16
