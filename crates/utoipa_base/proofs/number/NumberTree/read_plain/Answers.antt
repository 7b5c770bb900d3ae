use Rattle.std.proofs.Common.{w64, rules, sym, ap, ◌∙◌, Some, arith}
use Rattle.std.proofs.lemmas.Int.{to_z-of_z}
use mir.Val.{SFits, to_z, of_z}
use Rattle.utoipa_base.specs.Docs.{int_doc}
use Rattle.utoipa_base.proofs.Numerals.{reads_int, int_small, schema_count-int}
use Rattle.utoipa_base.proofs.number.NumberTree.read_plain.Goals as goal

pub returns-in-Some : goal.returns-in-Some
returns-in-Some c =
    let fits : SFits w64 c.in-Some.number = search rules in
    record {
      ok = reads_int _ _ (sym c.in-Some.ensures) (int_small _ fits) ∙ ap (λ z. Some (int_doc z)) (sym (to_z-of_z w64 _ fits));
      err = tt;
      grows = omega arith;
      at_most = omega arith;
      at_least = λ below. omega (arith, schema_count-int (to_z w64 (of_z w64 c.in-Some.number)));
    }
