-- For private clauses: what takes entries back that were put into a map.
use Rattle.std.specs.Prelude.{List, [], ◌∷◌, Option, None, Some, String, string_cmp}
use Rattle.std.specs.BTreeMap.{is_at}
use Rattle.std.specs.Map.{remove_entry, set_value}
use Rattle.std.specs.declared.alloc.Global.{Global}
use Rattle.utoipa_base.specs.Fill.{Pairs}
use Rattle.utoipa_base.specs.declared.all_or_none.Replaced.{Replaced}

-- the pairs, with the value that the name had before, if any
abbrev pub restored : {X : Type 0} → Option X → String Global → Pairs X → Pairs X
restored None name es = remove_entry (is_at (string_cmp name)) es
restored (Some v) name es = set_value (is_at (string_cmp name)) es v

-- the pairs, with what was noted put back
abbrev pub put_back : {X : Type 0} → Replaced X → Pairs X → Pairs X
put_back r es = restored r.value r.name es

-- the pairs, with each note put back, the last first
abbrev pub undone : {X : Type 0} → List (Replaced X) → Pairs X → Pairs X
undone [] es = es
undone (r ∷ rs) es = put_back r (undone rs es)
