-- What a writer of JSON has after events were sent to it.
use Rattle.std.proofs.Common.{◌≡◌, ◌∙◌, refl, ap, append_assoc, sym, append-nil, ℕ, List, [], ◌∷◌, ◌++◌, false, Some}
use Rattle.json.specs.Token.{Token}
use Rattle.json.specs.Written.{Written}
use Rattle.serde_json.specs.Data.{Num}
use Rattle.serde_json.specs.Find.{is_float}
use Rattle.serde_json.specs.Read.{number_of}
use Rattle.serde_json.specs.Written.{number_text}
use Rattle.utoipa_base.specs.Events.{Event, null, boolean, number, string, begin_array, end_array, begin_object, end_object, key}

-- the text is read as the number, and has just the digits of a whole one. Which digits a fraction has is not defined
pub record IsNumberText (n : Num) (s : List ℕ) : Type 0 where
  pub reads : number_of s ≡ Some n
  pub whole : is_float n ≡ false → s ≡ number_text n

-- the token is that of an event
abbrev pub IsTokenOf : Event → Token → Type 0
IsTokenOf null t = t ≡ Token.null
IsTokenOf (boolean b) t = t ≡ Token.boolean b
IsTokenOf (number n) t = (s : List ℕ) × (t ≡ Token.number s) × IsNumberText n s
IsTokenOf (string s) t = t ≡ Token.string s
IsTokenOf begin_array t = t ≡ Token.begin_array
IsTokenOf end_array t = t ≡ Token.end_array
IsTokenOf begin_object t = t ≡ Token.begin_object
IsTokenOf end_object t = t ≡ Token.end_object
IsTokenOf (key k) t = t ≡ Token.key k

-- the tokens are those of the events, in turn
abbrev pub AreTokensOf : List Event → List Token → Type 0
AreTokensOf [] [] = Unit {0}
AreTokensOf [] (t ∷ ts) = ⊥
AreTokensOf (e ∷ es) [] = ⊥
AreTokensOf (e ∷ es) (t ∷ ts) = IsTokenOf e t × AreTokensOf es ts

-- the tokens of events were added
pub record AddsTokens (old : Written) (es : List Event) (new : Written) : Type 0 where
  pub before : new.before ≡ old.before
  pub added : (ts : List Token) × (new.tokens ≡ old.tokens ++ ts) × AreTokensOf es ts

pub adds_none : (w : Written) → AddsTokens w [] w
adds_none w = record { before = refl; added = ([], sym (append-nil w.tokens), tt) }

tokens_of_both : (es fs : List Event) (ts us : List Token) → AreTokensOf es ts → AreTokensOf fs us → AreTokensOf (es ++ fs) (ts ++ us)
tokens_of_both [] fs [] us first last = last
tokens_of_both [] fs (t ∷ ts) us first last = absurd first
tokens_of_both (e ∷ es) fs [] us first last = absurd first
tokens_of_both (e ∷ es) fs (t ∷ ts) us first last = (first.0, tokens_of_both es fs ts us first.1 last)

pub adds_both : (a b c : Written) (es fs : List Event) → AddsTokens a es b → AddsTokens b fs c → AddsTokens a (es ++ fs) c
adds_both a b c es fs first last =
    let ts = first.added.0 in
    let us = last.added.0 in
    record {
      before = last.before ∙ first.before;
      added = (ts ++ us, last.added.1 ∙ ap (λ xs. xs ++ us) first.added.1 ∙ append_assoc a.tokens ts us, tokens_of_both es fs ts us first.added.2 last.added.2);
    }
