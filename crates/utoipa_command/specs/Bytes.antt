-- What is known of a reader's and a writer's bytes, before and after a call.
use Rattle.std.specs.Prelude.{◌≡◌, ◌<◌, ℕ, List, ◌++◌, Bool, length, take, Option, Some, None}
use Rattle.std.specs.Io.KnownBytes.{Appends}

-- the bytes of a reader or a writer, where it tells them
abbrev pub Known : Type 0
Known = Option (List ℕ)

-- what is known of a reader: whether a read may have failed by then, before and after, and the bytes that it had and has left
pub record Reading : Type 0 where
  pub had_failed : Bool
  pub may_have_failed : Bool
  pub before : Known
  pub after : Known

-- what is known of a writer: the bytes that it had room for, whether a write may have failed by then, before and after, and the bytes that it
-- held and holds
pub record Writing : Type 0 where
  pub room : ℕ
  pub had_failed : Bool
  pub may_have_failed : Bool
  pub before : Known
  pub after : Known

-- a front of bs is appended, short of all of it
abbrev pub AppendsPart : Known → Known → List ℕ → Type 0
AppendsPart old new bs = (n : ℕ) × (n < length bs) × Appends old new (take n bs)

-- a front of bs is appended, and it may be all
abbrev pub AppendsFront : Known → Known → List ℕ → Type 0
AppendsFront old new bs = (n : ℕ) × Appends old new (take n bs)

-- the writer tells its bytes, and they grew by bs alone
abbrev pub Shows : Known → Known → List ℕ → Type 0
Shows None new bs = ⊥
Shows (Some xs) new bs = new ≡ Some (xs ++ bs)

-- a reader, by whether it may have failed and by its bytes, before and after
abbrev pub reading : Bool → Bool → Known → Known → Reading
reading e f b a = record { had_failed = e; may_have_failed = f; before = b; after = a }

-- a writer with so much room, by whether it may have failed and by its bytes, before and after
abbrev pub writing : ℕ → Bool → Bool → Known → Known → Writing
writing r e f b a = record { room = r; had_failed = e; may_have_failed = f; before = b; after = a }
