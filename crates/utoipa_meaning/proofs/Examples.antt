-- The worked examples in which a reference is read, by computation.
use Rattle.std.proofs.Common.{◌≡◌, refl}
use Rattle.std.specs.Char.{encode_utf8}
use Rattle.std.specs.Str.{chars, is_utf8}
use Rattle.percent_encoding.specs.Percent.{percent_decode}
use Rattle.serde_json.specs.Find.{unescape}
use Rattle.utoipa_meaning.specs.Examples as examples
use Rattle.utoipa_meaning.specs.Meaning.{effective_parameters, listed_parameters}

pub overridden : effective_parameters examples.with_limit examples.pages_of_item examples.pages_of_operation ≡ examples.effective_pages
unfolding chars encode_utf8 is_utf8 unescape percent_decode
overridden = refl

pub lost : listed_parameters examples.with_limit examples.lost_references ≡ examples.as_they_stand
unfolding chars encode_utf8 is_utf8 unescape percent_decode
lost = refl
