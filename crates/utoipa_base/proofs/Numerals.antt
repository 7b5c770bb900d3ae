-- What a tree reads as where a number is asked for, and how a number is written.
use Rattle.std.proofs.Common.{◌≡◌, w64, ℕ, ◌^◌, ◌<◌, arith, ℤ, pos, negsuc, nat_lt, Bool, true, false, cond, Some, None, option_map, option_and_then, refl, ap, ◌∙◌}
use mir.Val.{SFits}
use Rattle.std.proofs.lemmas.Bool.Decides.{nat_tests}
use Rattle.serde_json.specs.Data.{Num, unsigned, negative, float, Data, null, boolean, number, string, array, object}
use Rattle.serde_json.specs.Find.{as_number, as_u64, as_i64, as_integer, of_integer}
use Rattle.utoipa_base.specs.Kinds.{numeral}
use Rattle.utoipa_base.specs.Docs.{int_doc, uint_doc}
use Rattle.utoipa_base.specs.Reading.{reader, read, numeral_doc}
use Rattle.utoipa_base.specs.Values.{schema_count}
use Rattle.utoipa_base.specs.Writing.{write}

-- where the number is an i64, its sort is Int
unsigned_int : (b : Bool) (n : ℕ) (z : ℤ) → cond b (Some (pos n)) None ≡ Some z → cond b (int_doc (pos n)) (uint_doc n) ≡ int_doc z
unsigned_int true n z e = cc
unsigned_int false n z e = cc

-- where the number is no i64, its sort is UInt
unsigned_uint : (b : Bool) (n : ℕ) → cond b (Some (pos n)) None ≡ None → cond b (int_doc (pos n)) (uint_doc n) ≡ uint_doc n
unsigned_uint true n e = cc
unsigned_uint false n e = refl

-- an i64 has the sort Int
num-int : (n : Num) (z : ℤ) → as_i64 n ≡ Some z → numeral_doc z ≡ int_doc z → option_map numeral_doc (as_integer n) ≡ Some (int_doc z)
num-int (unsigned n) z e small = ap Some (unsigned_int (nat_lt n (2 ^ 63)) n z e)
num-int (negative y) z e small = let same : y ≡ z = cc in ap (λ x. Some (numeral_doc x)) same ∙ ap Some small
num-int (float x) z e small = cc

-- a u64 that is no i64 has the sort UInt
num-uint : (n : Num) (u : ℕ) → as_i64 n ≡ None → as_u64 n ≡ Some u → option_map numeral_doc (as_integer n) ≡ Some (uint_doc u)
num-uint (unsigned n) u none e = let same : n ≡ u = cc in ap Some (unsigned_uint (nat_lt n (2 ^ 63)) n none ∙ ap uint_doc same)
num-uint (negative y) u none e = cc
num-uint (float x) u none e = cc

-- neither an i64 nor a u64 is read
num-none : (n : Num) → as_i64 n ≡ None → as_u64 n ≡ None → option_map numeral_doc (as_integer n) ≡ None
num-none (unsigned n) none e = cc
num-none (negative y) none e = cc
num-none (float x) none e = refl

-- what fits an i64 has the sort Int
pub int_small : (z : ℤ) → SFits w64 z → numeral_doc z ≡ int_doc z
int_small (pos n) fits =
    let within : n < 2 ^ 63 = fits.sfits in
    let small : nat_lt n (2 ^ 63) ≡ true = grind (arith, nat_tests) in
    rw small
int_small (negsuc n) fits = refl

-- a tree that is an i64
pub reads_int : (d : Data) (z : ℤ) → option_and_then as_i64 (as_number d) ≡ Some z → numeral_doc z ≡ int_doc z → read numeral d ≡ Some (int_doc z)
unfolding reader
reads_int null z e small = cc
reads_int (boolean b) z e small = cc
reads_int (number n) z e small = num-int n z e small
reads_int (string s) z e small = cc
reads_int (array ds) z e small = cc
reads_int (object ms) z e small = cc

-- a tree that is a u64 and no i64
pub reads_uint : (d : Data) (u : ℕ) → option_and_then as_i64 (as_number d) ≡ None → option_and_then as_u64 (as_number d) ≡ Some u → read numeral d ≡ Some (uint_doc u)
unfolding reader
reads_uint null u none e = cc
reads_uint (boolean b) u none e = cc
reads_uint (number n) u none e = num-uint n u none e
reads_uint (string s) u none e = cc
reads_uint (array ds) u none e = cc
reads_uint (object ms) u none e = cc

-- a tree that is neither
pub reads_none : (d : Data) → option_and_then as_i64 (as_number d) ≡ None → option_and_then as_u64 (as_number d) ≡ None → read numeral d ≡ None
unfolding reader
reads_none null none e = refl
reads_none (boolean b) none e = refl
reads_none (number n) none e = num-none n none e
reads_none (string s) none e = refl
reads_none (array ds) none e = refl
reads_none (object ms) none e = refl

-- an Int is written as the number that it is
pub write-int : (z : ℤ) → write (int_doc z) ≡ number (of_integer z)
unfolding write
write-int z = refl

-- a UInt is written as the number that it is
pub write-uint : (n : ℕ) → write (uint_doc n) ≡ number (unsigned n)
unfolding write
write-uint n = refl

-- an Int holds no schema
pub schema_count-int : (z : ℤ) → schema_count (int_doc z) ≡ 0
unfolding schema_count
schema_count-int z = refl

-- a UInt holds no schema
pub schema_count-uint : (n : ℕ) → schema_count (uint_doc n) ≡ 0
unfolding schema_count
schema_count-uint n = refl

-- the sorts of numbers, read and written
pub ruleset by_numeral = (reads_uint, reads_none, write-int, write-uint, schema_count-int, schema_count-uint)
