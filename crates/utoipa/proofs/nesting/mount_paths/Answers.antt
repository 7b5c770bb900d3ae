use Rattle.std.proofs.Common.{ℕ, List, refl, sym, subst}
use Rattle.std.specs.Map.{keys_of}
use Rattle.std.proofs.lemmas.Result.{on_ok_weaker}
use Rattle.utoipa_base.specs.Views.{map_of_docs}
use Rattle.utoipa_merging.specs.Slots.{entries_in}
use Rattle.utoipa_path.specs.Docs.{path_item_doc}
use Rattle.utoipa_paths.specs.Items.{AreItemsInOrder}
use Rattle.utoipa_paths.specs.Paths.{IsEmptyPaths}
use Rattle.utoipa_paths.specs.declared.paths.Paths.{Paths}
use Rattle.utoipa.specs.Nesting.{AreMounted, MayAnswerEach}
use Rattle.utoipa.proofs.nesting.mount_paths.Goals as goal

pub returns-clause-ok : goal.returns-clause-ok
returns-clause-ok g c =
    on_ok_weaker c.mount.result
    (λ m. (
      m.0,
      subst (λ (p : Paths). MayAnswerEach g.F.Fn c.args.composer.now c.args.base.now (keys_of (entries_in (map_of_docs path_item_doc p.paths))) m.0) c.replace-nested.ensures.value m.1,
      record {
        items = c.mount.new.items;
        none = c.replace-nested.new.dest;
        put = refl;
        taken = refl;
        empty = subst IsEmptyPaths (sym c.replace-nested.ensures.after) c.new.ensures;
        mounted =
            subst (λ (p : Paths). AreMounted m.0 (map_of_docs path_item_doc p.paths) (map_of_docs path_item_doc c.args.document.now.paths.paths) (map_of_docs path_item_doc c.mount.new.items)) c.replace-nested.ensures.value m.2;
      },
    ))
    c.mount.ensures.ok

pub returns-clause-ordered : goal.returns-clause-ordered
returns-clause-ordered g c =
    on_ok_weaker c.mount.result (λ m. λ own other. c.mount.ensures.ordered own (subst (λ (p : Paths). AreItemsInOrder p.paths) (sym c.replace-nested.ensures.value) other)) c.mount.ensures.ok
