-- The operations of a path item by their HTTP methods, one of which is set.
use Rattle.std.proofs.Common.{◌≡◌, ◌⊎◌, inl, inr, List, [], ◌∷◌, ◌++◌, Some, Contains, option_map, refl, ap, arith, ◌∙◌, subst}
use Rattle.std.specs.Option.{option_or}
use Rattle.std.proofs.lemmas.List.Elements.{Contains-push, Contains-push_cases, Contains-append_left}
use Rattle.utoipa_base.specs.Docs.{Doc}
use Rattle.utoipa_leaf.specs.declared.path.HttpMethod.{HttpMethod}
use Rattle.utoipa_leaf.specs.declared.path.HttpMethod.TheVariants.{Get, Post, Put, Delete, Options, Head, Patch, Trace}
use Rattle.utoipa_path.specs.Builders.{PathItemFields}
use Rattle.utoipa_path.specs.Docs.{operation_doc}
use Rattle.utoipa_path.specs.Methods.{operation_at, with_operation, without_methods, replaced, HoldAtMethods}
use Rattle.utoipa_path.specs.declared.types.Operation.{Operation}

-- the operation that was set
pub set_here : (m : HttpMethod) (o : Operation) (i : PathItemFields) → operation_at m (with_operation m o i) ≡ Some o
set_here Get o i = refl
set_here Post o i = refl
set_here Put o i = refl
set_here Delete o i = refl
set_here Options o i = refl
set_here Head o i = refl
set_here Patch o i = refl
set_here Trace o i = refl

-- the rest of the item
pub set_beside : (m : HttpMethod) (o : Operation) (i : PathItemFields) → without_methods (with_operation m o i) ≡ without_methods i
set_beside Get o i = refl
set_beside Post o i = refl
set_beside Put o i = refl
set_beside Delete o i = refl
set_beside Options o i = refl
set_beside Head o i = refl
set_beside Patch o i = refl
set_beside Trace o i = refl

-- a method is the one that was set, or its operation stands as it did
pub set_elsewhere : (m n : HttpMethod) (o : Operation) (i : PathItemFields) → (m ≡ n) ⊎ (operation_at n (with_operation m o i) ≡ operation_at n i)
set_elsewhere Get Get o i = inl refl
set_elsewhere Get Post o i = inr refl
set_elsewhere Get Put o i = inr refl
set_elsewhere Get Delete o i = inr refl
set_elsewhere Get Options o i = inr refl
set_elsewhere Get Head o i = inr refl
set_elsewhere Get Patch o i = inr refl
set_elsewhere Get Trace o i = inr refl
set_elsewhere Post Get o i = inr refl
set_elsewhere Post Post o i = inl refl
set_elsewhere Post Put o i = inr refl
set_elsewhere Post Delete o i = inr refl
set_elsewhere Post Options o i = inr refl
set_elsewhere Post Head o i = inr refl
set_elsewhere Post Patch o i = inr refl
set_elsewhere Post Trace o i = inr refl
set_elsewhere Put Get o i = inr refl
set_elsewhere Put Post o i = inr refl
set_elsewhere Put Put o i = inl refl
set_elsewhere Put Delete o i = inr refl
set_elsewhere Put Options o i = inr refl
set_elsewhere Put Head o i = inr refl
set_elsewhere Put Patch o i = inr refl
set_elsewhere Put Trace o i = inr refl
set_elsewhere Delete Get o i = inr refl
set_elsewhere Delete Post o i = inr refl
set_elsewhere Delete Put o i = inr refl
set_elsewhere Delete Delete o i = inl refl
set_elsewhere Delete Options o i = inr refl
set_elsewhere Delete Head o i = inr refl
set_elsewhere Delete Patch o i = inr refl
set_elsewhere Delete Trace o i = inr refl
set_elsewhere Options Get o i = inr refl
set_elsewhere Options Post o i = inr refl
set_elsewhere Options Put o i = inr refl
set_elsewhere Options Delete o i = inr refl
set_elsewhere Options Options o i = inl refl
set_elsewhere Options Head o i = inr refl
set_elsewhere Options Patch o i = inr refl
set_elsewhere Options Trace o i = inr refl
set_elsewhere Head Get o i = inr refl
set_elsewhere Head Post o i = inr refl
set_elsewhere Head Put o i = inr refl
set_elsewhere Head Delete o i = inr refl
set_elsewhere Head Options o i = inr refl
set_elsewhere Head Head o i = inl refl
set_elsewhere Head Patch o i = inr refl
set_elsewhere Head Trace o i = inr refl
set_elsewhere Patch Get o i = inr refl
set_elsewhere Patch Post o i = inr refl
set_elsewhere Patch Put o i = inr refl
set_elsewhere Patch Delete o i = inr refl
set_elsewhere Patch Options o i = inr refl
set_elsewhere Patch Head o i = inr refl
set_elsewhere Patch Patch o i = inl refl
set_elsewhere Patch Trace o i = inr refl
set_elsewhere Trace Get o i = inr refl
set_elsewhere Trace Post o i = inr refl
set_elsewhere Trace Put o i = inr refl
set_elsewhere Trace Delete o i = inr refl
set_elsewhere Trace Options o i = inr refl
set_elsewhere Trace Head o i = inr refl
set_elsewhere Trace Patch o i = inr refl
set_elsewhere Trace Trace o i = inl refl

in_none : (m : HttpMethod) → Contains [] m → ⊥
in_none m h = absurd (omega (arith, h.1))

-- no method was listed
pub hold_none : (d : Doc) (i : PathItemFields) → HoldAtMethods [] d i i
hold_none d i = record { listed = λ m h. absurd (in_none m h); others = λ m h. refl; rest = refl }

-- one more method was listed, and a copy of the operation set there
pub hold_one : (ms : List HttpMethod) (d : Doc) (old now next : PathItemFields) (m : HttpMethod) (o : Operation) → HoldAtMethods ms d old now → operation_doc o ≡ d → next ≡ with_operation m o now → HoldAtMethods (ms ++ m ∷ []) d old next
hold_one ms d old now next m o before is set =
    record {
      listed = λ n h. ap (λ i. option_map operation_doc (operation_at n i)) set ∙ there n (Contains-push_cases ms m n h) (set_elsewhere m n o now);
      others = λ n h. ap (operation_at n) set ∙ beside n h (set_elsewhere m n o now);
      rest = ap without_methods set ∙ set_beside m o now ∙ before.rest;
    }
  where
    here : (n : HttpMethod) → m ≡ n → option_map operation_doc (operation_at n (with_operation m o now)) ≡ Some d
    here n e = subst (λ k. option_map operation_doc (operation_at k (with_operation m o now)) ≡ Some d) e (ap (option_map operation_doc) (set_here m o now) ∙ ap Some is)

    there : (n : HttpMethod) → Contains ms n ⊎ (m ≡ n) → (m ≡ n) ⊎ (operation_at n (with_operation m o now) ≡ operation_at n now) → option_map operation_doc (operation_at n (with_operation m o now)) ≡ Some d
    there n c (inl e) = here n e
    there n (inr e) (inr same) = here n e
    there n (inl c) (inr same) = ap (option_map operation_doc) same ∙ before.listed n c

    beside : (n : HttpMethod) → (Contains (ms ++ m ∷ []) n → ⊥) → (m ≡ n) ⊎ (operation_at n (with_operation m o now) ≡ operation_at n now) → operation_at n (with_operation m o now) ≡ operation_at n old
    beside n h (inl e) = absurd (h (subst (Contains (ms ++ m ∷ [])) e (Contains-push ms m)))
    beside n h (inr same) = same ∙ before.others n (λ c. h (Contains-append_left ms (m ∷ []) n c))

-- ---- operations that were taken over

pub replaced_at : (m : HttpMethod) (i j : PathItemFields) → operation_at m (replaced i j) ≡ option_or (operation_at m j) (operation_at m i)
replaced_at Get i j = refl
replaced_at Post i j = refl
replaced_at Put i j = refl
replaced_at Delete i j = refl
replaced_at Options i j = refl
replaced_at Head i j = refl
replaced_at Patch i j = refl
replaced_at Trace i j = refl
