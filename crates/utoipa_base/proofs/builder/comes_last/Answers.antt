use Rattle.std.proofs.Common.{◌≡◌, rules, Greater, string_bytes}
use Rattle.std.specs.Ordering.{nat_cmp}
use Rattle.std.specs.Cmp.Lexicographic.{slice_cmp}
use Rattle.utoipa_base.proofs.Building.{above_all}
use Rattle.utoipa_base.proofs.builder.comes_last.Goals as goal

pub returns-in-Some : goal.returns-in-Some
returns-in-Some c h =
    let gt : slice_cmp nat_cmp c.args.name.now (string_bytes c.in-Some.last.now) ≡ Greater = search rules in
    above_all c.in-Some.last.now c.args.name.now c.args.members.now.entries c.in-Some.ensures.all_up_to gt
