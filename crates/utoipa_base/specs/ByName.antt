-- Entries in the order of their names.
use Rattle.std.specs.Prelude.{ℕ, List}
use Rattle.std.specs.Ordering.{nat_cmp, match_ordering}
use Rattle.std.specs.Cmp.Lexicographic.{slice_cmp}
use Rattle.utoipa_base.specs.Docs.{Doc, Entries, no_entries, entry}

-- an entry put among entries in the order of their names; one of its name gives way
abbrev pub put_entry : List ℕ → Doc → Entries → Entries
put_entry k d no_entries = entry k d no_entries
put_entry k d (entry l e es) = match_ordering (slice_cmp nat_cmp k l) (entry k d (entry l e es)) (entry l d es) (entry l e (put_entry k d es))

-- entries put among others, one after the other
abbrev pub put_entries : Entries → Entries → Entries
put_entries no_entries fs = fs
put_entries (entry k d es) fs = put_entries es (put_entry k d fs)

-- the entries in the order of their names; of two with one name the later stays
abbrev pub by_name : Entries → Entries
by_name es = put_entries es no_entries
