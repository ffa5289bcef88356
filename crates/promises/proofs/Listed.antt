-- A list of asks is read as those asks, one after another; on a reached book no answer is 10, 11 or 25, and each is planned.
use mathlib.Core.Path.{◌≡◌, refl, sym, ap, ◌∙◌}
use mathlib.Core.Bool.{Bool, true, false, cond}
use mathlib.Core.List.{List, [], ◌∷◌}
use Prim.Native.Nat.{ℕ, zero, suc, ◌+◌, ◌*◌, ◌<◌}
use native.Mathlib.Omega.{arith}
use lib.ListN.{length, get_or, take}
use lib.Dec.{eqb}
use Rattle.rules.specs.Lists.{all_of}
use Rattle.rules.specs.Calls.{ask_number, ask_words, answers_of, words_of, list_number, list_answers, list_words}
use Rattle.rules.specs.Truth.{Mesh}
use Rattle.rules.specs.Sequence.{State, after, after_all, asks_of}
use Rattle.rules.proofs.Accepted.{list-accepted, ask-length}
use Rattle.rules.proofs.Faultless.{fine, ask-fine}
use Rattle.rules.proofs.Tests.{and-of}
use Rattle.promises.specs.Demand.{ListedFine, ListPlanned, ReadAsAsks, AnsweredAsAsks}
use Rattle.promises.specs.Plan.{ask_plan, mask_after, answers_plan}
use Rattle.promises.proofs.Kept.{Kept, kept-mask, ask-kept, reached-kept, kept-right, kept-alike}
use Rattle.promises.proofs.Planned.{ask-planned, mask-after, same-mask}

asks-words : (s : State) (ps : List ℕ) → after_all s (asks_of ps) ≡ record { words = words_of s.words ps; mesh = s.mesh }
unfolding after_all asks_of words_of after
asks-words s [] = refl
asks-words s (d ∷ []) = refl
asks-words s (d ∷ e ∷ ps) = asks-words (record { words = ask_words s.words d e; mesh = s.mesh }) ps

pub read-as-asks : ReadAsAsks
unfolding after list_words
read-as-asks s ps ns = rw (asks-words s ps) (go (eqb (list_number ps ns) 0))
  where
    go : (b : Bool) → ◌≡◌ {A = State} (record { words = cond b (words_of s.words ps) s.words; mesh = s.mesh })
        (cond b (record { words = words_of s.words ps; mesh = s.mesh }) s)
    go true = refl
    go false = refl

answer_at : (ws ps : List ℕ) (i : ℕ) → 2 * i + 1 < length ps
    → get_or (answers_of ws ps) i 0 ≡ ask_number (words_of ws (take (2 * i) ps)) (get_or ps (2 * i) 0) (get_or ps (2 * i + 1) 0)
unfolding answers_of words_of
answer_at ws [] i l = absurd (omega arith)
answer_at ws (d ∷ []) i l = absurd (omega arith)
answer_at ws (d ∷ e ∷ ps) zero l = refl
answer_at ws (d ∷ e ∷ ps) (suc i) l =
    let t : 2 * suc i + 1 ≡ suc (suc (2 * i + 1)) = omega arith in
    let u : 2 * suc i ≡ suc (suc (2 * i)) = omega arith in
    rw (t, u) (answer_at (ask_words ws d e) ps i (omega arith))

pub answered-as-asks : AnsweredAsAsks
unfolding list_answers
answered-as-asks ws ps ns h i l = rw h (answer_at ws ps i (omega (arith, list-accepted ps ns h)))

-- no answer is 10, 11 or 25
answers-fine : (m : Mesh) (ps ws : List ℕ) → Kept m ws → all_of fine (answers_of ws ps) ≡ true
unfolding answers_of all_of
answers-fine m [] ws k = refl
answers-fine m (d ∷ []) ws k = refl
answers-fine m (d ∷ e ∷ ps) ws k =
    let g = kept-right m ws k in
    and-of _ _ (ask-fine ws g.frame g.rows (kept-alike m ws k) d e) (answers-fine m ps (ask_words ws d e) (ask-kept m ws k d e))

pub listed-fine : ListedFine
listed-fine m ws r ps = answers-fine m ps ws (reached-kept m ws r)

-- each answer is planned
pub answers-planned : (m : Mesh) (ps ws : List ℕ) (k : Kept m ws) → answers_of ws ps ≡ answers_plan (length ws) m k.mask ps
unfolding answers_of answers_plan
answers-planned m [] ws k = refl
answers-planned m (d ∷ []) ws k = refl
answers-planned m (d ∷ e ∷ ps) ws k =
    let n = ask-kept m ws k d e in
    let q : n.mask ≡ mask_after (length ws) m k.mask d e = sym (kept-mask m (ask_words ws d e) n) ∙ mask-after m ws k d e in
    let r = answers-planned m ps (ask_words ws d e) n ∙ ap (λ (l : ℕ). answers_plan l m n.mask ps) (ask-length ws d e) ∙ ap (λ (x : ℕ). answers_plan (length ws) m x ps) q in
    rw (ask-planned m ws k d e) (ap (λ (v : List ℕ). ask_plan (length ws) m k.mask d e ∷ v) r)

pub list-planned : ListPlanned
list-planned m ws r mask h ps =
    let k = reached-kept m ws r in
    rw (same-mask m ws k mask h) (answers-planned m ps ws k)
