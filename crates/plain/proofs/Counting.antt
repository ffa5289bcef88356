-- The plain engine's own numbering is Build's: a candidate is met for the first time exactly where no cell before has it.
use mathlib.Core.Path.{◌≡◌, refl, sym, ap, ◌∙◌}
use mathlib.Core.Logic.{◌⊎◌, inl, inr}
use mathlib.Core.Bool.{Bool, true, false, cond, not}
use mathlib.Core.List.{List, [], ◌∷◌, ◌++◌, append_assoc, append-nil, Memᴰ as In}
use mathlib.Core.List.Memᴰ
use Prim.Native.Nat.{ℕ, ◌+◌, ◌-◌, ◌≤◌, ◌<◌}
use native.Mathlib.Omega.{arith}
use native.Mathlib.Numerals.{add-one}
use lib.ListN.{length, get_or, take, drop}
use lib.Seq.{take_all, take-suc, take-add}
use Rattle.rules.specs.Lists.{up_to, any_of, keep, inside, same, ascends, choose}
use Rattle.rules.specs.Book.{most}
use Rattle.rules.specs.Made.{met, met_all, built}
use Rattle.rules.proofs.Tests.{agree, any-of, any-is, same-is, same_refl, inside_of, inside-at, any_last}
use Rattle.rules.proofs.Keep.{keep-agree, up_to-is}
use Rattle.rules.proofs.First.{keep_append}
use Rattle.rules.proofs.Distinct.{Distinct, map_is}
use Rattle.rules.proofs.Choose.{chosen, choice, choose-distinct}
use Rattle.rules.proofs.Built.{built-is, built_of, built-last, choose-most}
use Rattle.plain.specs.Cells.{cell_at, cells_before, Cells, is_new, news}
use Rattle.plain.proofs.Before.{before_more, cell-fits, cell-long}

-- ---- candidates met one after another, all different: those not there before, at the end
absent : (es : List (List ℕ)) (s : List ℕ) → Bool
absent es s = not (any_of (same s) es)

-- another set at the end makes no difference to a set that is not it
absent-other : (es : List (List ℕ)) (s t : List ℕ) → (t ≡ s → ⊥) → absent (es ++ (s ∷ [])) t ≡ absent es t
unfolding absent
absent-other es s t n = ap not (any_last (same t) es s (differ (same t s) refl))
  where
    differ : (b : Bool) → same t s ≡ b → same t s ≡ false
    differ true e = absurd (n (same-is t s e))
    differ false e = e

met_all-keep : (es ss : List (List ℕ)) → Distinct ss → met_all es ss ≡ es ++ keep (absent es) ss
unfolding met_all keep met absent
met_all-keep es [] p = sym (append-nil es)
met_all-keep es (s ∷ ss) p = go (any_of (same s) es) refl (met_all-keep es ss p.1) (met_all-keep (es ++ (s ∷ [])) ss p.1)
  where
    rest : keep (absent (es ++ (s ∷ []))) ss ≡ keep (absent es) ss
    rest = keep-agree (absent (es ++ (s ∷ []))) (absent es) ss (λ t i. absent-other es s t (λ e. p.0 (Memᴰ.cast (sym e) i)))

    go : (b : Bool) → any_of (same s) es ≡ b → met_all es ss ≡ es ++ keep (absent es) ss → met_all (es ++ (s ∷ [])) ss ≡ es ++ (s ∷ []) ++ keep (absent (es ++ (s ∷ []))) ss
        → met_all (cond b es (es ++ (s ∷ []))) ss ≡ es ++ cond (absent es s) (s ∷ keep (absent es) ss) (keep (absent es) ss)
    go true e f g = rw e f
    go false e f g = rw e (g ∙ ap (λ (r : List (List ℕ)). es ++ (s ∷ []) ++ r) rest ∙ append_assoc es (s ∷ []) (keep (absent es) ss))

-- ---- one cell more
-- a set of d + 1 members, ascending, is among what is built exactly where some cell has it
built-has : (d : ℕ) (cs : List (List ℕ)) → ((c : List ℕ) → In c cs → ascends c ≡ true) → (s : List ℕ) → ascends s ≡ true → length s ≡ d + 1
    → any_of (same s) (built d [] cs) ≡ any_of (inside s) cs
built-has d cs up s u l = agree (any_of (same s) (built d [] cs)) (any_of (inside s) cs) there-too back
  where
    from : In s [] ⊎ ((c : List ℕ) × In c cs × In s (choose (d + 1) c)) → any_of (inside s) cs ≡ true
    from (inl i) = absurd (Memᴰ.not-nil i)
    from (inr b) = let (c, j, q) = b in any-of (inside s) j (inside_of s c (chosen (d + 1) c s (up c j) q).within)

    there-too : any_of (same s) (built d [] cs) ≡ true → any_of (inside s) cs ≡ true
    there-too h = let (t, i, e) = any-is (same s) (built d [] cs) h in from (built-is d s [] cs (Memᴰ.cast (same-is s t e) i))

    back : any_of (inside s) cs ≡ true → any_of (same s) (built d [] cs) ≡ true
    back h =
        let (c, i, e) = any-is (inside s) cs h in
        any-of (same s) (built_of d s c [] cs i (choice (d + 1) c s (up c i) (record { up = u; size = l; within = inside-at s c e }))) (same_refl s)

-- ---- the cells of a slice
module _ {ws : List ℕ} {D n : ℕ} (k : Cells ws D n) where
  before-up : (c : ℕ) → c ≤ n → (s : List ℕ) → In s (cells_before (D + 1) ws c) → ascends s ≡ true
  unfolding cells_before
  before-up c l s i = let (b, j, e) = map_is (cell_at (D + 1) ws) (up_to c) i in let m = up_to-is b c j in rw e (k.up b (omega arith))

  module _ (d : ℕ) (low : 0 < d) (high : d < D) where
    pub many-candidates : (c : ℕ) → c < n → length (choose (d + 1) (cell_at (D + 1) ws c)) ≡ most D d
    many-candidates c l = choose-most D d (cell_at (D + 1) ws c) low high k.high (cell-long (D + 1) ws c (cell-fits (D + 1) ws c n l (omega (arith, k.long))))

    pub built-news : (c : ℕ) → c < n → built d [] (cells_before (D + 1) ws (c + 1)) ≡ built d [] (cells_before (D + 1) ws c) ++ news D d ws c (most D d)
    unfolding news is_new absent
    built-news c l =
        let x = cell_at (D + 1) ws c in
        let u = k.up c l in
        let pre = cells_before (D + 1) ws c in
        ap (built d []) (before_more (D + 1) ws c) ∙ built-last d [] pre x ∙ met_all-keep (built d [] pre) (choose (d + 1) x) (choose-distinct (d + 1) x u)
        ∙ ap (λ (r : List (List ℕ)). built d [] pre ++ r)
        (keep-agree (absent (built d [] pre)) (is_new D ws c) (choose (d + 1) x)
        (λ s i. let g = chosen (d + 1) x s u i in ap not (built-has d pre (before-up c (omega arith)) s g.up g.size))
        ∙ ap (keep (is_new D ws c)) (sym (take_all (most D d) (choose (d + 1) x) (omega (arith, many-candidates c l)))))

-- ---- one candidate more
module _ (D d : ℕ) (ws : List ℕ) (c : ℕ) where
  pub news-none : news D d ws c 0 ≡ []
  unfolding news keep
  news-none = refl

  module _ (q : ℕ) (l : q < length (choose (d + 1) (cell_at (D + 1) ws c))) where
    -- the candidate
    abbrev Candidate : List ℕ
    Candidate = get_or (choose (d + 1) (cell_at (D + 1) ws c)) q []

    news-next : news D d ws c (q + 1) ≡ news D d ws c q ++ keep (is_new D ws c) (Candidate ∷ [])
    unfolding news
    news-next =
        rw (add-one, take-suc (choose (d + 1) (cell_at (D + 1) ws c)) q [] l)
        (keep_append (is_new D ws c) (take q (choose (d + 1) (cell_at (D + 1) ws c))) (Candidate ∷ []))

    pub news-old : is_new D ws c Candidate ≡ false → news D d ws c (q + 1) ≡ news D d ws c q
    unfolding keep
    news-old e = news-next ∙ rw e (append-nil (news D d ws c q))

    pub news-new : is_new D ws c Candidate ≡ true → news D d ws c (q + 1) ≡ news D d ws c q ++ (Candidate ∷ [])
    unfolding keep
    news-new e = news-next ∙ rw e

    -- and all behind it
    pub news-rest : (n : ℕ) → q + 1 ≤ n → (rest : List (List ℕ)) × (news D d ws c n ≡ news D d ws c (q + 1) ++ rest)
    unfolding news
    news-rest n m =
        let r = n - (q + 1) in
        let e : n ≡ q + 1 + r = omega arith in
        let cs = choose (d + 1) (cell_at (D + 1) ws c) in (
          keep (is_new D ws c) (take r (drop (q + 1) cs)),
          ap (λ (x : ℕ). keep (is_new D ws c) (take x cs)) e ∙ ap (keep (is_new D ws c)) (take-add (q + 1) r cs) ∙ keep_append (is_new D ws c) (take (q + 1) cs) (take r (drop (q + 1) cs)),
        )
