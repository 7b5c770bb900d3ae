-- The words of HTTP methods, of the places of parameters, and of the styles in which parameters are written.
use Rattle.std.specs.Prelude.{◌≡◌, ℕ, List, [], ◌∷◌, Some, codes, refl}
use Rattle.utoipa_base.specs.Docs.{Doc}
use Rattle.utoipa_base.specs.Kinds.{word_of, http_method, parameter_in, parameter_style}
use Rattle.utoipa_base.specs.Shape.{IsOf, value_of}
use Rattle.utoipa_base.specs.Vocabularies.{with_text, word_by, word_of_kind}
use Rattle.utoipa_leaf.specs.declared.path.HttpMethod.{HttpMethod}
use Rattle.utoipa_leaf.specs.declared.path.HttpMethod.TheVariants as http_methods
use Rattle.utoipa_leaf.specs.declared.path.ParameterIn.{ParameterIn}
use Rattle.utoipa_leaf.specs.declared.path.ParameterIn.TheVariants as parameter_ins
use Rattle.utoipa_leaf.specs.declared.path.ParameterStyle.{ParameterStyle}
use Rattle.utoipa_leaf.specs.declared.path.ParameterStyle.TheVariants as parameter_styles

-- ---- an HTTP method

-- the word of an HTTP method
abbrev pub http_method_text : HttpMethod → List ℕ
http_method_text http_methods.Get = codes "get"
http_method_text http_methods.Post = codes "post"
http_method_text http_methods.Put = codes "put"
http_method_text http_methods.Delete = codes "delete"
http_method_text http_methods.Options = codes "options"
http_method_text http_methods.Head = codes "head"
http_method_text http_methods.Patch = codes "patch"
http_method_text http_methods.Trace = codes "trace"

-- each, in the order of the words
abbrev pub every_http_method : List HttpMethod
every_http_method = http_methods.Get ∷ http_methods.Post ∷ http_methods.Put ∷ http_methods.Delete ∷ http_methods.Options ∷ http_methods.Head ∷ http_methods.Patch ∷ http_methods.Trace ∷ []

-- an HTTP method as a document
abbrev pub http_method_doc : HttpMethod → Doc
http_method_doc = word_by http_method_text

-- no two have one word
pub http_method_by_text : (w : HttpMethod) → with_text http_method_text every_http_method (http_method_text w) ≡ Some w
http_method_by_text http_methods.Get = refl
http_method_by_text http_methods.Post = refl
http_method_by_text http_methods.Put = refl
http_method_by_text http_methods.Delete = refl
http_method_by_text http_methods.Options = refl
http_method_by_text http_methods.Head = refl
http_method_by_text http_methods.Patch = refl
http_method_by_text http_methods.Trace = refl

-- each is a document of its vocabulary
pub http_method_of_kind : (w : HttpMethod) → IsOf (http_method_doc w) (value_of (word_of http_method))
http_method_of_kind = word_of_kind http_method http_method_text every_http_method refl http_method_by_text

-- ---- a place of parameters

-- the word of a place of parameters
abbrev pub parameter_in_text : ParameterIn → List ℕ
parameter_in_text parameter_ins.Query = codes "query"
parameter_in_text parameter_ins.Path = codes "path"
parameter_in_text parameter_ins.Header = codes "header"
parameter_in_text parameter_ins.Cookie = codes "cookie"
parameter_in_text parameter_ins.QueryString = codes "querystring"

-- each, in the order of the words
abbrev pub every_parameter_in : List ParameterIn
every_parameter_in = parameter_ins.Query ∷ parameter_ins.Path ∷ parameter_ins.Header ∷ parameter_ins.Cookie ∷ parameter_ins.QueryString ∷ []

-- a place of parameters as a document
abbrev pub parameter_in_doc : ParameterIn → Doc
parameter_in_doc = word_by parameter_in_text

-- no two have one word
pub parameter_in_by_text : (w : ParameterIn) → with_text parameter_in_text every_parameter_in (parameter_in_text w) ≡ Some w
parameter_in_by_text parameter_ins.Query = refl
parameter_in_by_text parameter_ins.Path = refl
parameter_in_by_text parameter_ins.Header = refl
parameter_in_by_text parameter_ins.Cookie = refl
parameter_in_by_text parameter_ins.QueryString = refl

-- each is a document of its vocabulary
pub parameter_in_of_kind : (w : ParameterIn) → IsOf (parameter_in_doc w) (value_of (word_of parameter_in))
parameter_in_of_kind = word_of_kind parameter_in parameter_in_text every_parameter_in refl parameter_in_by_text

-- ---- a style of parameters

-- the word of a style of parameters
abbrev pub parameter_style_text : ParameterStyle → List ℕ
parameter_style_text parameter_styles.Matrix = codes "matrix"
parameter_style_text parameter_styles.Label = codes "label"
parameter_style_text parameter_styles.Form = codes "form"
parameter_style_text parameter_styles.Simple = codes "simple"
parameter_style_text parameter_styles.SpaceDelimited = codes "spaceDelimited"
parameter_style_text parameter_styles.PipeDelimited = codes "pipeDelimited"
parameter_style_text parameter_styles.DeepObject = codes "deepObject"
parameter_style_text parameter_styles.Cookie = codes "cookie"

-- each, in the order of the words
abbrev pub every_parameter_style : List ParameterStyle
every_parameter_style = parameter_styles.Matrix ∷ parameter_styles.Label ∷ parameter_styles.Form ∷ parameter_styles.Simple ∷ parameter_styles.SpaceDelimited ∷ parameter_styles.PipeDelimited ∷ parameter_styles.DeepObject ∷ parameter_styles.Cookie ∷ []

-- a style of parameters as a document
abbrev pub parameter_style_doc : ParameterStyle → Doc
parameter_style_doc = word_by parameter_style_text

-- no two have one word
pub parameter_style_by_text : (w : ParameterStyle) → with_text parameter_style_text every_parameter_style (parameter_style_text w) ≡ Some w
parameter_style_by_text parameter_styles.Matrix = refl
parameter_style_by_text parameter_styles.Label = refl
parameter_style_by_text parameter_styles.Form = refl
parameter_style_by_text parameter_styles.Simple = refl
parameter_style_by_text parameter_styles.SpaceDelimited = refl
parameter_style_by_text parameter_styles.PipeDelimited = refl
parameter_style_by_text parameter_styles.DeepObject = refl
parameter_style_by_text parameter_styles.Cookie = refl

-- each is a document of its vocabulary
pub parameter_style_of_kind : (w : ParameterStyle) → IsOf (parameter_style_doc w) (value_of (word_of parameter_style))
parameter_style_of_kind = word_of_kind parameter_style parameter_style_text every_parameter_style refl parameter_style_by_text
