use Rattle.std.proofs.Common.{map, refl}
use Rattle.utoipa_base.proofs.ReadsBack.{reads_back}
use Rattle.utoipa.specs.Merging.{leaves_of}
use Rattle.utoipa.specs.OpenApi.{openapi_doc}
use Rattle.utoipa.proofs.TheTheorem.{both_if_ok, have_merged, have_nested, is_the_merged, is_the_merged_if, stays_normal, stays_well_formed}
use Rattle.utoipa.specs.MainTheorem.{IsReadByTables, IsOpenApiObject, AreMergedToOne, AreAllMergedToOne, MainTheorem}
use Rattle.utoipa.proofs.laws.main_theorem.Goals as goal

pub returns : goal.returns
returns g c = record {
  reads_back = λ value h. reads_back (g.T.Documented.doc value) g.T.Documented.kind (g.met.T.Tree.is_of_kind value) h.1;
  have_merged = have_merged;
  have_nested = have_nested;
  of_openapi = record { kind_is = refl; doc_is = λ d. refl };
  reading = record {
    document = c.from_value_counted.ensures.ok;
    fraction = c.from_value_counted.ensures.fraction;
    refusal = c.from_value_counted.ensures.err;
    at_most = c.from_value_counted.ensures.at_most;
    at_least = c.from_value_counted.ensures.at_least;
  };
  writing = c.to_value.ensures;
  reading_back = c.written_and_read.ensures;
  merging = record {
    document = both_if_ok _ _ _ c.merge_tree.result c.merge_tree.ensures.ok c.merge_tree.ensures.ordered (λ merged is order. is_the_merged (map openapi_doc (leaves_of c.args.documents)) (openapi_doc merged) is order);
    well_formed = both_if_ok _ _ _ c.merge_tree.result c.merge_tree.ensures.ok c.merge_tree.ensures.ordered (λ merged is order. stays_well_formed (leaves_of c.args.documents) merged is order);
    normal = both_if_ok _ _ _ c.merge_tree.result c.merge_tree.ensures.ok c.merge_tree.ensures.ordered (λ merged is order. stays_normal (leaves_of c.args.documents) merged is order);
    fraction = c.merge_tree.ensures.fraction;
    refusal = c.merge_tree.ensures.composer;
  };
  merging_all = record {
    document = both_if_ok _ _ _ c.merge_all.result c.merge_all.ensures.ok c.merge_all.ensures.ordered (λ merged is order. is_the_merged_if (map openapi_doc c.args.listed.items) merged is order);
    none = c.merge_all.ensures.none;
    some = c.merge_all.ensures.some;
    fraction = c.merge_all.ensures.fraction;
    refusal = c.merge_all.ensures.composer;
  };
}
