-- Sets and the same sets as three words are met alike.
use mathlib.Core.Path.{◌≡◌, refl, sym, ap, ◌∙◌}
use mathlib.Core.Bool.{Bool, true, false, cond}
use mathlib.Core.List.Memᴰ.{head as here}
use mathlib.Core.List.Memᴰ.{tail as there}
use mathlib.Core.List.{List, [], ◌∷◌, ◌++◌, map, map-append, append_cancel_right, Memᴰ as In}
use Prim.Native.Nat.{ℕ, ◌+◌, ◌-◌, ◌<◌}
use native.Mathlib.Omega.{arith}
use lib.ListN.{length, get_or, take, replicate, length-append, length-replicate}
use lib.Seq.{take_at}
use Rattle.rules.specs.Lists.{any_of, same}
use Rattle.rules.specs.Made.{met, met_all}
use Rattle.rules.proofs.Tests.{agree, same-is, same_refl}
use Rattle.rules.proofs.Numbered.{any-map, any-agree}
use Rattle.building.specs.Sets.{padded}

-- one candidate more
pub met_all-last : (es ss : List (List ℕ)) (s : List ℕ) → met_all es (ss ++ (s ∷ [])) ≡ met (met_all es ss) s
unfolding met_all
met_all-last es [] s = refl
met_all-last es (t ∷ ts) s = met_all-last (met es t) ts s

module _ (d : ℕ) where
  padded-same : (s t : List ℕ) → same (padded d s) (padded d t) ≡ same s t
  unfolding padded
  padded-same s t =
      agree (same (padded d s) (padded d t)) (same s t)
      (λ h. rw (append_cancel_right s t (replicate (2 - d) 0) (same-is _ _ h)) (same_refl t))
      (λ h. rw (same-is s t h) (same_refl (padded d t)))

  padded-any : (s : List ℕ) (es : List (List ℕ)) → any_of (same (padded d s)) (map (padded d) es) ≡ any_of (same s) es
  padded-any s es =
      any-map (same (padded d s)) (padded d) es
      ∙ any-agree (λ (t : List ℕ). same (padded d s) (padded d t)) (same s) es (λ t i. padded-same s t)

  padded-met : (es : List (List ℕ)) (s : List ℕ) → met (map (padded d) es) (padded d s) ≡ map (padded d) (met es s)
  unfolding met
  padded-met es s = rw (padded-any s es) (go (any_of (same s) es))
    where
      go : (b : Bool) → cond b (map (padded d) es) (map (padded d) es ++ (padded d s ∷ [])) ≡ map (padded d) (cond b es (es ++ (s ∷ [])))
      go true = refl
      go false = sym (map-append (padded d) es (s ∷ []))

  pub padded-all : (es ss : List (List ℕ)) → met_all (map (padded d) es) (map (padded d) ss) ≡ map (padded d) (met_all es ss)
  unfolding met_all
  padded-all es [] = refl
  padded-all es (s ∷ ss) = ap (λ (t : List (List ℕ)). met_all t (map (padded d) ss)) (padded-met es s) ∙ padded-all (met es s) ss

  pub padded-length : (s : List ℕ) → d < 3 → length s ≡ d + 1 → length (padded d s) ≡ 3
  unfolding padded
  padded-length s l e = rw length-append (omega (arith, length-replicate {A = ℕ} (2 - d) 0))

  pub padded-first : (s : List ℕ) → 0 < length s → get_or (padded d s) 0 0 ≡ get_or s 0 0
  unfolding padded
  padded-first [] l = absurd (omega arith)
  padded-first (x ∷ xs) l = refl

  -- the first d + 1 words are the set again
  pub padded-back : (ss : List (List ℕ)) → ((s : List ℕ) → In s ss → length s ≡ d + 1) → map (take (d + 1)) (map (padded d) ss) ≡ ss
  padded-back [] f = refl
  padded-back (s ∷ ss) f =
      let e : take (d + 1) (padded d s) ≡ s = unfold padded in take_at s (replicate (2 - d) 0) (d + 1) (f s (here refl)) in
      cc (padded-back ss (λ t i. f t (there i)))
