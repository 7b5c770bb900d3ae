-- The rules by which a slot of the merged document comes from that slot of each document, in their order.
use Rattle.std.specs.Prelude.{◌≡◌, ◌⊎◌, List, [], ◌∷◌, ◌++◌, Option, None, Some, Contains}
use Rattle.std.specs.Option.{option_or}

-- the first that is there
abbrev pub first_of : {A : Type 0} → List (Option A) → Option A
first_of [] = None
first_of (o ∷ os) = option_or o (first_of os)

-- the last that is there
abbrev pub last_of : {A : Type 0} → List (Option A) → Option A
last_of [] = None
last_of (o ∷ os) = option_or (last_of os) o

-- the later, where there is no earlier
abbrev pub where_missing : {A : Type 0} → (earlier later : Option A) → Option A
where_missing None later = later
where_missing (Some x) later = None

-- what each has, as a slot that is never empty
abbrev pub given : {A B : Type 0} → (A → B) → A → Option B
given f x = Some (f x)

-- the kept are those of the entries, in their order, that equal none of the earlier. Entries that equal each other stay, or go, together
abbrev pub AreNew : {A : Type 0} → (earlier entries kept : List A) → Type 0
AreNew {A} earlier [] kept = kept ≡ []
AreNew {A} earlier (x ∷ xs) kept =
    (Contains earlier x × AreNew earlier xs kept)
    ⊎ ((more : List A) × ¬ Contains earlier x × (kept ≡ x ∷ more) × AreNew earlier xs more)

-- the joined are what is kept of each list in turn, beside the earlier and all entries of the lists before it
abbrev pub AreJoined : {A : Type 0} → (earlier : List A) (lists : List (List A)) (joined : List A) → Type 0
AreJoined {A} earlier [] joined = joined ≡ []
AreJoined {A} earlier (l ∷ ls) joined =
    (kept more : List A) × AreNew earlier l kept × AreJoined (earlier ++ l) ls more × (joined ≡ kept ++ more)
