-- What a reader means.
use Rattle.std.specs.Prelude.{ℕ, List, drop}
use Rattle.feed.specs.declared.reader.Reader.{Reader}

-- the bytes that are not read yet
abbrev pub unread : {A : Type 0} → Reader A → List ℕ
unread r = drop r.place r.feed.now
