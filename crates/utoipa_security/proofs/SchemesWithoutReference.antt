-- Why a security scheme has no text at `$ref`.
use Rattle.std.proofs.Common.{◌≡◌, ◌∙◌, Bool, true, refl, sym, codes}
use Rattle.utoipa_base.specs.Docs.{Doc}
use Rattle.utoipa_base.specs.Kinds.{oauth2_scheme, api_key_scheme, http_scheme, open_id_connect_scheme, mutual_tls_scheme}
use Rattle.utoipa_base.specs.Writing.{write}
use Rattle.utoipa_security.specs.ApiKey.{api_key_doc}
use Rattle.utoipa_security.specs.Schemes.{scheme_object, scheme_doc}
use Rattle.utoipa_security.specs.declared.security.api_key.ApiKey.{ApiKey}
use Rattle.utoipa_security.specs.declared.security.api_key.ApiKey.TheVariants as keys
use Rattle.utoipa_security.specs.declared.security.scheme.SecurityScheme.{SecurityScheme}
use Rattle.utoipa_security.specs.declared.security.scheme.SecurityScheme.TheVariants as made
use Rattle.utoipa_base.specs.Unambiguous.{is_unambiguous, is_no_reference}
use Rattle.utoipa_base.proofs.UnambiguousParts.{unambiguous-tagged}
use Rattle.utoipa_base.proofs.WithoutReference.{table_reads_alone, tagged_reads_alone}

key_reads_alone : (k : ApiKey) → is_unambiguous (api_key_doc k) ≡ true → is_no_reference (write (api_key_doc k)) ≡ true
key_reads_alone (keys.Header v) h = tagged_reads_alone _ _ _ refl (table_reads_alone api_key_scheme _ _ refl (sym (unambiguous-tagged _ _ _) ∙ h))
key_reads_alone (keys.Query v) h = tagged_reads_alone _ _ _ refl (table_reads_alone api_key_scheme _ _ refl (sym (unambiguous-tagged _ _ _) ∙ h))
key_reads_alone (keys.Cookie v) h = tagged_reads_alone _ _ _ refl (table_reads_alone api_key_scheme _ _ refl (sym (unambiguous-tagged _ _ _) ∙ h))

object_reads_alone : (s : SecurityScheme) → is_unambiguous (scheme_object s) ≡ true → is_no_reference (write (scheme_object s)) ≡ true
object_reads_alone (made.OAuth2 s) h = table_reads_alone oauth2_scheme _ _ refl h
object_reads_alone (made.ApiKey s) h = key_reads_alone s h
object_reads_alone (made.Http s) h = table_reads_alone http_scheme _ _ refl h
object_reads_alone (made.OpenIdConnect s) h = table_reads_alone open_id_connect_scheme _ _ refl h
object_reads_alone (made.MutualTls description deprecated extensions) h = table_reads_alone mutual_tls_scheme _ _ refl h

pub scheme_reads_alone : (s : SecurityScheme) → is_unambiguous (scheme_doc s) ≡ true → true ≡ is_no_reference (write (scheme_doc s))
scheme_reads_alone s h = sym (tagged_reads_alone _ _ (scheme_object s) refl (object_reads_alone s (sym (unambiguous-tagged _ _ _) ∙ h)))
