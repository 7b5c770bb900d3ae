-- The measures of the functions that read contents, encodings and headers, and the invariants of their loops.
use Rattle.std.proofs.Common.{◌+◌, ◌*◌}
use Rattle.serde_json.specs.View.{view}
use Rattle.utoipa_base.specs.Kinds.{named, ref_or, media_type_object, encoding_object, header_object}
use Rattle.utoipa_base.specs.Refs.{ref_or_doc}
use Rattle.utoipa_base.specs.Values.{values}
use Rattle.utoipa_base.proofs.ReadingLists.{ListSoFar}
use Rattle.utoipa_base.proofs.ReadingMaps.{MapSoFar}
use Rattle.utoipa_media.specs.Docs.{content_doc, encoding_doc, header_doc}
use Rattle.utoipa_media.proofs.read.+read.Given as goal

abbrev pub decreases-read_content : goal.decreases-read_content
decreases-read_content l = 8 * values (view l.tree.now) + 3

abbrev pub decreases-read_encoding : goal.decreases-read_encoding
decreases-read_encoding l = 8 * values (view l.tree.now) + 3

abbrev pub decreases-read_header : goal.decreases-read_header
decreases-read_header l = 8 * values (view l.tree.now) + 3

abbrev pub decreases-read_ref_or_content : goal.decreases-read_ref_or_content
decreases-read_ref_or_content l = 8 * values (view l.tree.now) + 4

abbrev pub decreases-read_ref_or_header : goal.decreases-read_ref_or_header
decreases-read_ref_or_header l = 8 * values (view l.tree.now) + 4

abbrev pub decreases-read_encodings : goal.decreases-read_encodings
decreases-read_encodings l = 8 * values (view l.tree.now) + 2

abbrev pub decreases-read_encodings_by_name : goal.decreases-read_encodings_by_name
decreases-read_encodings_by_name l = 8 * values (view l.tree.now) + 1

abbrev pub decreases-read_first_encodings : goal.decreases-read_first_encodings
decreases-read_first_encodings l = 8 * values (view l.tree.now) + 1

abbrev pub decreases-read_item_encoding : goal.decreases-read_item_encoding
decreases-read_item_encoding l = 8 * values (view l.tree.now) + 1

abbrev pub decreases-read_headers : goal.decreases-read_headers
decreases-read_headers l = 8 * values (view l.tree.now) + 1

abbrev pub decreases-read_contents : goal.decreases-read_contents
decreases-read_contents l = 8 * values (view l.tree.now) + 1

abbrev pub decreases-read_encoding_list : goal.decreases-read_encoding_list
decreases-read_encoding_list l = 8 * values (view l.tree.now) + 0

abbrev pub decreases-read_encoding_map : goal.decreases-read_encoding_map
decreases-read_encoding_map l = 8 * values (view l.tree.now) + 0

abbrev pub decreases-read_header_map : goal.decreases-read_header_map
decreases-read_header_map l = 8 * values (view l.tree.now) + 0

abbrev pub decreases-read_content_map : goal.decreases-read_content_map
decreases-read_content_map l = 8 * values (view l.tree.now) + 0

abbrev pub invariant-read_encoding_list-loop-item : goal.invariant-read_encoding_list-loop-item
invariant-read_encoding_list-loop-item l = ListSoFar (named encoding_object) encoding_doc l.item-items l.item-index l.list.items l.initial.readings l.readings

abbrev pub invariant-read_encoding_map-loop-key : goal.invariant-read_encoding_map-loop-key
invariant-read_encoding_map-loop-key l = MapSoFar (named encoding_object) encoding_doc l.initial.key-iterator l.key-iterator l.map.entries l.initial.readings l.readings

abbrev pub invariant-read_header_map-loop-key : goal.invariant-read_header_map-loop-key
invariant-read_header_map-loop-key l = MapSoFar (ref_or (named header_object)) (ref_or_doc (named header_object) header_doc) l.initial.key-iterator l.key-iterator l.map.entries l.initial.readings l.readings

abbrev pub invariant-read_content_map-loop-key : goal.invariant-read_content_map-loop-key
invariant-read_content_map-loop-key l = MapSoFar (ref_or (named media_type_object)) (ref_or_doc (named media_type_object) content_doc) l.initial.key-iterator l.key-iterator l.map.entries l.initial.readings l.readings
