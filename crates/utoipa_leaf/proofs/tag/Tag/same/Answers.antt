use Rattle.utoipa_base.proofs.SameDocs.{fields_whole, extensions_whole, first_whole, later_whole}
use Rattle.utoipa_leaf.proofs.tag.Tag.same.Goals as goal

pub same_table-same_option-requires-2-clause-left_whole : goal.same_table-same_option-requires-2-clause-left_whole
same_table-same_option-requires-2-clause-left_whole c = first_whole _ _ (later_whole _ _ (fields_whole _ _ _ c.requires.whole))

pub same_table-same_option-requires-2-clause-right_whole : goal.same_table-same_option-requires-2-clause-right_whole
same_table-same_option-requires-2-clause-right_whole c = first_whole _ _ (later_whole _ _ (fields_whole _ _ _ c.requires.other_whole))

pub same_table-same_extensions-requires-clause-left_whole : goal.same_table-same_extensions-requires-clause-left_whole
same_table-same_extensions-requires-clause-left_whole c = extensions_whole _ _ _ c.requires.whole

pub same_table-same_extensions-requires-clause-right_whole : goal.same_table-same_extensions-requires-clause-right_whole
same_table-same_extensions-requires-clause-right_whole c = extensions_whole _ _ _ c.requires.other_whole
