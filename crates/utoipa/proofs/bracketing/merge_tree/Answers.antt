use Rattle.std.proofs.Common.{◌≡◌, Ok, Err, refl, ap, sym, ◌∙◌}
use Rattle.utoipa.specs.Merging.{leaves_of}
use Rattle.utoipa.specs.declared.merging.MergeFault.TheVariants.{Fraction}
use Rattle.utoipa.proofs.Bracketed.{leaf_merged, no_leaf, any_of_brackets}
use Rattle.utoipa.proofs.bracketing.merge_tree.Goals as goal

pub returns-then-leaf_has_fraction-clause-fraction : goal.returns-then-leaf_has_fraction-clause-fraction
returns-then-leaf_has_fraction-clause-fraction c =
    (λ refused. any_of_brackets c.args.bracketing c.in_default.not-Leaf ∙ sym c.leaf_has_fraction.ensures ∙ c.if-leaf_has_fraction.true, λ has. refl)

pub returns-then-leaf_has_fraction-clause-one : goal.returns-then-leaf_has_fraction-clause-one
returns-then-leaf_has_fraction-clause-one c = no_leaf c.args.bracketing c.in_default.not-Leaf (λ d. Err Fraction ≡ Ok d)

pub returns-in-Leaf-clause-ok : goal.returns-in-Leaf-clause-ok
returns-in-Leaf-clause-ok c = leaf_merged (leaves_of c.args.bracketing) c.in-Leaf.document (ap leaves_of c.in-Leaf.is)

pub returns-else-leaf_has_fraction-clause-one : goal.returns-else-leaf_has_fraction-clause-one
returns-else-leaf_has_fraction-clause-one c = no_leaf c.args.bracketing c.in_default.not-Leaf (λ d. c.or_memory-merged.result ≡ Ok d)
