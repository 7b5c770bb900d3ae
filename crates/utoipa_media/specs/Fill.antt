-- What is put into a map or a list, once it was made.
use Rattle.std.specs.Prelude.{◌≡◌, Result, Ok, String, string_bytes, string_cmp}
use Rattle.std.specs.BTreeMap.{insert_entry}
use Rattle.std.specs.declared.alloc.Global.{Global}
use Rattle.utoipa_base.specs.Fill.{Pairs}

-- the value that was made was put under a copy of the name
abbrev pub PutsUnderCopy : {X E : Type 0} → String Global → Result X E → Pairs X → Pairs X → Type 0
PutsUnderCopy {X} name made old new =
    (copy : String Global) × (value : X) × (string_bytes copy ≡ string_bytes name) × (made ≡ Ok value) × (new ≡ insert_entry string_cmp old copy value)
