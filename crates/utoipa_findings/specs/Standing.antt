-- For users: that what files are merged into, or nested into each other, has all that stands in each of them.
use Rattle.std.specs.Prelude.{◌≡◌, ℕ, List, [], ◌∷◌, ◌++◌, Bool, true, false, Some, All, codes}
use Rattle.std.specs.Str.{bytes_eq}
use Rattle.serde_json.specs.Data.{Data}
use Rattle.serde_json.specs.Find.{get, at}
use Rattle.utoipa_base.specs.Docs.{Doc}
use Rattle.utoipa_base.specs.Extensions.{is_extension}
use Rattle.utoipa_base.specs.Kinds.{named, open_api_object}
use Rattle.utoipa_base.specs.WellFormed.{ReadsAs}
use Rattle.utoipa_base.specs.Writing.{write}
use Rattle.utoipa_check.specs.Has.{IsAlike, Written, Has}
use Rattle.utoipa_check.specs.Places.{members_at}
use Rattle.utoipa_conflicts.specs.Conflicts.{conflicts, is_joined}
use Rattle.utoipa_conflicts.specs.Holders.{EachMember}
use Rattle.utoipa_conflicts.specs.Merged.{written}
use Rattle.utoipa_conflicts.specs.Nested.{behind, nested_conflicts}
use Rattle.utoipa_conflicts.specs.NestedInto.{IsNoExtension}
use Rattle.utoipa_merging.specs.Merged.{IsOpenApi, IsMerged, IsInKeyOrder}
use Rattle.utoipa_merging.specs.Nested.{IsNested}
use Rattle.utoipa_findings.specs.Findings.{text_losses}
use Rattle.utoipa_findings.specs.InText.{HasText}
use Rattle.utoipa_findings.specs.Sources.{File, seen, tree_of}

-- ---- files of which nothing is lost

-- a tree that is to be an OpenAPI document, as the file is looked at
abbrev pub seen_of : File → Data → Data
seen_of x t = seen x.2 (named open_api_object) t

-- the file's text has this tree, which is read as this document, as it is looked at, and the document loses nothing of the text when it is written
-- again
pub record IsUnlost (x : File) (t : Data) (d : Doc) : Type 0 where
  pub has : tree_of x.1 ≡ Some t
  pub reads : ReadsAs (named open_api_object) (seen_of x t) d
  pub nothing : text_losses (named open_api_object) x.1 (seen_of x t) ≡ []

-- the same of files, their trees and documents, one after the other
abbrev pub AreUnlost : List File → List Data → List Doc → Type 0
AreUnlost [] [] [] = Unit {0}
AreUnlost (x ∷ xs) (t ∷ ts) (d ∷ ds) = IsUnlost x t d × AreUnlost xs ts ds
AreUnlost xs ts ds = ⊥

-- ---- what stands where

-- each item of the second list stands among those of the first, with all that it has
abbrev pub IsAmong : Data → Data → Type 0
IsAmong w x = IsAlike x w × ((i : ℕ) (e : Data) → at i x ≡ Some e → (n : ℕ) × (y : Data) × (at n w ≡ Some y) × Has y e)

-- of a list that merging joins the items stand among those of the other, and of all else each value stands at its place
abbrev pub StandsBy : (joined : Bool) → Data → Data → Type 0
StandsBy true w x = IsAmong w x
StandsBy false w x = Has w x

-- a member's values stand under its name
abbrev pub MemberStands : Data → List ℕ → Data → Type 0
MemberStands m name x = Written (get name m) (λ w. StandsBy (is_joined name) w x)

-- Each value of the second tree, that of a document, stands in the first at its place, and each item of its servers, security requirements and
-- tags is one of the items there.
abbrev pub StandsIn : (m t : Data) → Type 0
StandsIn m t = EachMember (MemberStands m) (members_at t)

-- an entry of `paths` stands under its name behind the base, and an extension under its name
abbrev pub EntryBehind : (base : List ℕ) → Bool → Data → List ℕ → Data → Type 0
EntryBehind base true paths name x = Written (get name paths) (λ w. Has w x)
EntryBehind base false paths name x = Written (get (base ++ name) paths) (λ w. Has w x)

-- the entries of `paths` stand so
abbrev pub PathsBehind : (base : List ℕ) → Data → Data → Type 0
PathsBehind base paths x = IsAlike x paths × EachMember (λ name e. EntryBehind base (is_extension name) paths name e) (members_at x)

-- a member's values stand under its name, those of `paths` behind the base
abbrev pub MemberBehind : (base : List ℕ) → (of_paths : Bool) → Data → List ℕ → Data → Type 0
MemberBehind base true m name x = Written (get name m) (λ w. PathsBehind base w x)
MemberBehind base false m name x = MemberStands m name x

-- Each value of the second tree stands in the first at its place, but what is at a path at that path behind the base; and each item of its servers,
-- security requirements and tags is one of the items there.
abbrev pub StandsBehind : (base : List ℕ) → (m t : Data) → Type 0
StandsBehind base m t = EachMember (λ name x. MemberBehind base (bytes_eq name (codes "paths")) m name x) (members_at t)

-- ---- files that are merged, or nested

-- Files of which nothing is lost, and the document that their documents are merged into, where merging drops nothing.
pub record AreMergedWhole (files : List File) (trees : List Data) (documents : List Doc) (d : Doc) : Type 0 where
  pub unlost : AreUnlost files trees documents
  pub each : All IsOpenApi documents
  pub merged : IsMerged documents d
  pub ordered : IsInKeyOrder d
  pub nothing : conflicts (written documents) ≡ []

-- all of each file's text stands in its tree, and all of that, as it is looked at, in the merged tree
abbrev pub AllStandIn : (m : Data) → List File → List Data → Type 0
AllStandIn m [] [] = Unit {0}
AllStandIn m (x ∷ xs) (t ∷ ts) = HasText t x.1 × StandsIn m (seen_of x t) × AllStandIn m xs ts
AllStandIn m xs ts = ⊥

-- Two files of which nothing is lost, and what comes of nesting the second's document into that of the first behind a base, where that drops
-- nothing.
pub record AreNestedWhole (base : List ℕ) (own_file other_file : File) (own_tree other_tree : Data) (own other d : Doc) : Type 0 where
  pub own_unlost : IsUnlost own_file own_tree own
  pub other_unlost : IsUnlost other_file other_tree other
  pub own_kind : IsOpenApi own
  pub other_kind : IsOpenApi other
  pub own_ordered : IsInKeyOrder own
  pub other_ordered : IsInKeyOrder other
  pub answered : All IsNoExtension (behind base (write other))
  pub nested : IsNested (behind base (write other)) own other d
  pub ordered : IsInKeyOrder d
  pub nothing : nested_conflicts (behind base (write other)) (write own) (write other) ≡ []

-- all of both files' texts stands in their trees, and all of these, as they are looked at, in what comes of it
pub record BothStand (base : List ℕ) (m : Data) (first second : File) (t u : Data) : Type 0 where
  pub own_text : HasText t first.1
  pub other_text : HasText u second.1
  pub own : StandsIn m (seen_of first t)
  pub other : StandsBehind base m (seen_of second u)
