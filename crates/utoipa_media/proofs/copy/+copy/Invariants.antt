-- The measures of the functions that copy contents, encodings and headers, and the invariants of their loops.
use Rattle.std.proofs.Common.{◌≡◌, ◌+◌, ◌*◌, take, map}
use Rattle.utoipa_base.specs.Kinds.{named, media_type_object, header_object}
use Rattle.utoipa_base.specs.Refs.{ref_or_doc}
use Rattle.utoipa_base.specs.Views.{boxed, option_of, list_of_docs, map_of_docs}
use Rattle.utoipa_base.proofs.Weights.{weight, docs_weight}
use Rattle.utoipa_base.proofs.WritingMaps.{MapCopied}
use Rattle.utoipa_media.specs.Docs.{content_doc, encoding_doc, header_doc}
use Rattle.utoipa_media.specs.Parts.{encodings_docs}
use Rattle.utoipa_media.proofs.copy.+copy.Given as goal

abbrev pub decreases-clone_content : goal.decreases-clone_content
decreases-clone_content l = 4 * weight (content_doc l.content.now) + 0

abbrev pub decreases-clone_encoding : goal.decreases-clone_encoding
decreases-clone_encoding l = 4 * weight (encoding_doc l.encoding.now) + 0

abbrev pub decreases-clone_header : goal.decreases-clone_header
decreases-clone_header l = 4 * weight (header_doc l.header.now) + 0

abbrev pub decreases-clone_ref_or_content : goal.decreases-clone_ref_or_content
decreases-clone_ref_or_content l = 4 * weight (ref_or_doc (named media_type_object) content_doc l.place.now) + 0

abbrev pub decreases-clone_ref_or_header : goal.decreases-clone_ref_or_header
decreases-clone_ref_or_header l = 4 * weight (ref_or_doc (named header_object) header_doc l.place.now) + 0

abbrev pub decreases-clone_encodings : goal.decreases-clone_encodings
decreases-clone_encodings l = 4 * docs_weight (encodings_docs l.by_name.now l.first.now l.rest.now) + 2

abbrev pub decreases-clone_encoding_list : goal.decreases-clone_encoding_list
decreases-clone_encoding_list l = 4 * weight (list_of_docs encoding_doc l.encodings.now) + 0

abbrev pub decreases-clone_encoding_map : goal.decreases-clone_encoding_map
decreases-clone_encoding_map l = 4 * weight (map_of_docs encoding_doc l.encodings.now) + 0

abbrev pub decreases-clone_header_map : goal.decreases-clone_header_map
decreases-clone_header_map l = 4 * weight (map_of_docs (ref_or_doc (named header_object) header_doc) l.headers.now) + 0

abbrev pub decreases-clone_content_map : goal.decreases-clone_content_map
decreases-clone_content_map l = 4 * weight (map_of_docs (ref_or_doc (named media_type_object) content_doc) l.contents.now) + 0

abbrev pub decreases-clone_item_encoding : goal.decreases-clone_item_encoding
decreases-clone_item_encoding l = 4 * weight (option_of (boxed encoding_doc) l.member.now) + 1

abbrev pub invariant-clone_encoding_list-loop-item : goal.invariant-clone_encoding_list-loop-item
invariant-clone_encoding_list-loop-item l = map encoding_doc l.list.items ≡ map encoding_doc (take l.item-index l.item-items)

abbrev pub invariant-clone_encoding_map-loop-key : goal.invariant-clone_encoding_map-loop-key
invariant-clone_encoding_map-loop-key l = MapCopied encoding_doc l.encodings.entries l.key-iterator l.map.entries

abbrev pub invariant-clone_header_map-loop-key : goal.invariant-clone_header_map-loop-key
invariant-clone_header_map-loop-key l = MapCopied (ref_or_doc (named header_object) header_doc) l.headers.entries l.key-iterator l.map.entries

abbrev pub invariant-clone_content_map-loop-key : goal.invariant-clone_content_map-loop-key
invariant-clone_content_map-loop-key l = MapCopied (ref_or_doc (named media_type_object) content_doc) l.contents.entries l.key-iterator l.map.entries
