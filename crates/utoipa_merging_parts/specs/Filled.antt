-- Maps that are filled side by side, and what is taken back of them.
use Rattle.std.specs.Prelude.{◌≡◌, ◌∷◌, ℕ, List, [], not, None, filter, String, string_bytes}
use Rattle.std.specs.BTreeMap.{BTreeMap, get_by_text}
use Rattle.std.specs.Option.{is_some, option_or}
use Rattle.std.specs.declared.alloc.Global.{Global}
use Rattle.utoipa_base.specs.Docs.{Doc}
use Rattle.utoipa_base.specs.Fill.{Pairs}
use Rattle.utoipa_merging.specs.Slots.{entry_at}

-- under each name stands the entry that did, or else the later
abbrev pub IsFilled : (own later new : Doc) → Type 0
IsFilled own later new = (name : List ℕ) → entry_at name new ≡ option_or (entry_at name own) (option_or (entry_at name later) None)

-- each map is filled from that at its place
abbrev pub AreFilled : (own later new : List Doc) → Type 0
AreFilled (m ∷ ms) (l ∷ ls) (n ∷ ns) = IsFilled m l n × AreFilled ms ls ns
AreFilled [] [] [] = Unit {0}
AreFilled ms ls ns = ⊥

-- names, of which nothing is said
abbrev pub Names : Type 0
Names = BTreeMap (String Global) (Unit {0})

-- the entries but for those of these names
abbrev pub without : {X : Type 0} → Names → Pairs X → Pairs X
without names es = filter (λ e. not (is_some (get_by_text names (string_bytes e.0)))) es
