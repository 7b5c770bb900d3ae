-- What is said of a place is on one line.
use Rattle.std.proofs.Common.{◌≡◌, ℕ, List, [], ◌∷◌, ◌++◌, true, codes, refl}
use Rattle.std.specs.List.{flat_map, list_all}
use Rattle.utoipa_base.specs.Kinds.{Kind, text, flag, whole, numeral, any, word_of, version, list_of, map_of, ordered_map_of, entries_of, ref_or, named, schema, schema_type, schema_format, array_items, additional_properties, security_scheme, api_key, flows, ObjectType, open_api_object, info_object, contact_object, license_object, server_object, server_variable_object, components_object, path_item_object, operation_object, external_docs_object, parameter_object, request_body_object, media_type_object, encoding_object, response_object, example_object, link_object, header_object, tag_object, reference_object, discriminator_object, xml_object, one_of_schema, all_of_schema, any_of_schema, array_schema, object_schema, api_key_scheme, http_scheme, open_id_connect_scheme, mutual_tls_scheme, oauth2_scheme, implicit_flow, password_flow, client_credentials_flow, authorization_code_flow, device_authorization_flow, scopes_object}
use Rattle.utoipa_tables.specs.Titles.{type_title}
use Rattle.utoipa_check.specs.Dropped as losses
use Rattle.utoipa_check.specs.Misfits.{Cause, absent, expected, unknown_word, no_alternative, unknown_name, fraction, Misfit}
use Rattle.utoipa_check.specs.Pointers.{shown_pointer}
use Rattle.utoipa_check.specs.References.{Reference}
use Rattle.utoipa_check.specs.Referring.{State, dangling, resolved, external}
use Rattle.utoipa_check.specs.Said.{expectation, quoted, next_word, words_text, next_kind, kinds_text, cause_text, misfit_text, state_text, reference_text, loss_text, dropped_text}
use Rattle.utoipa_check.specs.Shown.{shown, IsOneLine}
use Rattle.utoipa_check.proofs.ShownPointers.{pointer_line}
use Rattle.utoipa_check.proofs.ShownTexts.{is_printed, printed, nothing_is_one_line, one_line_append, shown_line}

-- a text behind words, and words behind it
pub behind : (words body : List ℕ) → list_all is_printed words ≡ true → IsOneLine body → IsOneLine (words ++ body)
behind words body p h = one_line_append words body (printed words p) h

pub before_words : (body words : List ℕ) → IsOneLine body → list_all is_printed words ≡ true → IsOneLine (body ++ words)
before_words body words h p = one_line_append body words h (printed words p)

pub among : (before body after : List ℕ) → list_all is_printed before ≡ true → IsOneLine body → list_all is_printed after ≡ true → IsOneLine (before ++ body ++ after)
among before body after p h q = one_line_append (before ++ body) after (behind before body p h) (printed after q)

pub each_line : {X : Type 0} (f : X → List ℕ) → ((x : X) → IsOneLine (f x)) → (xs : List X) → IsOneLine (flat_map f xs)
each_line f h [] = nothing_is_one_line
each_line f h (x ∷ xs) = one_line_append (f x) (flat_map f xs) (h x) (each_line f h xs)

-- ---- kinds

title_printed : (n : ObjectType) → list_all is_printed (type_title n) ≡ true
title_printed open_api_object = refl
title_printed info_object = refl
title_printed contact_object = refl
title_printed license_object = refl
title_printed server_object = refl
title_printed server_variable_object = refl
title_printed components_object = refl
title_printed path_item_object = refl
title_printed operation_object = refl
title_printed external_docs_object = refl
title_printed parameter_object = refl
title_printed request_body_object = refl
title_printed media_type_object = refl
title_printed encoding_object = refl
title_printed response_object = refl
title_printed example_object = refl
title_printed link_object = refl
title_printed header_object = refl
title_printed tag_object = refl
title_printed reference_object = refl
title_printed discriminator_object = refl
title_printed xml_object = refl
title_printed one_of_schema = refl
title_printed all_of_schema = refl
title_printed any_of_schema = refl
title_printed array_schema = refl
title_printed object_schema = refl
title_printed api_key_scheme = refl
title_printed http_scheme = refl
title_printed open_id_connect_scheme = refl
title_printed mutual_tls_scheme = refl
title_printed oauth2_scheme = refl
title_printed implicit_flow = refl
title_printed password_flow = refl
title_printed client_credentials_flow = refl
title_printed authorization_code_flow = refl
title_printed device_authorization_flow = refl
title_printed scopes_object = refl

expectation_printed : (k : Kind) → list_all is_printed (expectation k) ≡ true
expectation_printed text = refl
expectation_printed flag = refl
expectation_printed whole = refl
expectation_printed numeral = refl
expectation_printed any = refl
expectation_printed (word_of v) = refl
expectation_printed version = refl
expectation_printed (list_of k) = refl
expectation_printed (map_of k) = refl
expectation_printed (ordered_map_of k) = refl
expectation_printed (entries_of k) = refl
expectation_printed schema = refl
expectation_printed schema_type = refl
expectation_printed schema_format = refl
expectation_printed array_items = refl
expectation_printed additional_properties = refl
expectation_printed security_scheme = refl
expectation_printed api_key = refl
expectation_printed flows = refl
expectation_printed (ref_or k) = expectation_printed k
expectation_printed (named n) = title_printed n

next_kind_line : (k : Kind) → IsOneLine (next_kind k)
next_kind_line k = behind (codes " or ") (expectation k) refl (printed (expectation k) (expectation_printed k))

kinds_line : (ks : List Kind) → IsOneLine (kinds_text ks)
kinds_line [] = nothing_is_one_line
kinds_line (k ∷ ks) = one_line_append (expectation k) (flat_map next_kind ks) (printed (expectation k) (expectation_printed k)) (each_line next_kind next_kind_line ks)

-- ---- words

words_line : (ws : List (List ℕ)) → IsOneLine (words_text ws)
words_line [] = nothing_is_one_line
words_line (w ∷ ws) =
    one_line_append (quoted w) (flat_map next_word ws) (among (codes "`") (shown w) (codes "`") refl (shown_line w) refl)
    (each_line next_word (λ v. among (codes ", `") (shown v) (codes "`") refl (shown_line v) refl) ws)

-- ---- what is said

pub cause_line : (c : Cause) → IsOneLine (cause_text c)
cause_line (absent name) = among (codes "the member `") (shown name) (codes "` is required") refl (shown_line name) refl
cause_line (expected k) = one_line_append (expectation k) (codes " is expected") (printed (expectation k) (expectation_printed k)) (printed (codes " is expected") refl)
cause_line (unknown_word ws) = behind (codes "one of these words is expected: ") (words_text ws) refl (words_line ws)
cause_line (no_alternative ks) = behind (codes "this is not ") (kinds_text ks) refl (kinds_line ks)
cause_line (unknown_name ns) = behind (codes "this name is none of ") (words_text ns) refl (words_line ns)
cause_line fraction = printed (codes "the number is not an integer of 64 bits") refl

pub misfit_line : (m : Misfit) → IsOneLine (misfit_text m)
misfit_line m = one_line_append (shown_pointer m.0 ++ codes ": ") (cause_text m.1) (before_words (shown_pointer m.0) (codes ": ") (pointer_line m.0) refl) (cause_line m.1)

state_line : (s : State) → IsOneLine (state_text s)
state_line dangling = printed (state_text dangling) refl
state_line resolved = printed (state_text resolved) refl
state_line external = printed (state_text external) refl

pub reference_line : (r : Reference) → IsOneLine (reference_text r)
reference_line r =
    let place = before_words (shown_pointer r.0.0) (codes ": `") (pointer_line r.0.0) refl in
    let mentioned = one_line_append (shown_pointer r.0.0 ++ codes ": `") (shown r.0.1.1) place (shown_line r.0.1.1) in
    one_line_append (shown_pointer r.0.0 ++ codes ": `" ++ shown r.0.1.1 ++ codes "` ") (state_text r.1)
    (before_words (shown_pointer r.0.0 ++ codes ": `" ++ shown r.0.1.1) (codes "` ") mentioned refl) (state_line r.1)

loss_line : (l : losses.Loss) → IsOneLine (loss_text l)
loss_line losses.absent = printed (loss_text losses.absent) refl
loss_line losses.left_out = printed (loss_text losses.left_out) refl
loss_line losses.changed = printed (loss_text losses.changed) refl

pub dropped_line : (d : losses.Dropped) → IsOneLine (dropped_text d)
dropped_line d = one_line_append (shown_pointer d.0 ++ codes ": ") (loss_text d.1) (before_words (shown_pointer d.0) (codes ": ") (pointer_line d.0) refl) (loss_line d.1)
