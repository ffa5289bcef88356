-- One ask after another: what the first pairs have left and what is still to do; and a list whose answers are all the same.
use mathlib.Core.Path.{◌≡◌, refl, sym, ap, ◌∙◌}
use mathlib.Core.List.{List, [], ◌∷◌, ◌++◌, append_assoc, append-nil}
use Prim.Native.Nat.{ℕ, zero, suc, ◌+◌, ◌*◌, ◌≤◌, ◌<◌}
use native.Mathlib.Numerals.{add-one}
use native.Mathlib.Omega.{arith}
use lib.ListN.{length, get_or, set, take, drop, replicate, length-set, drop_of_length-le}
use lib.Seq.{drop-cons, take-suc-set, take_all}
use Rattle.rules.specs.Book.{Right}
use Rattle.rules.specs.Calls.{ask_number, ask_words, answers_of, words_of}
use Rattle.rules.proofs.Accepted.{ask-length}
use Rattle.rules.proofs.RightAsk.{ask-right}

-- after the first i pairs of ps, from the book ws and the answers ns: the book vs and the answers ms
pub record InTurn (ws ps ns : List ℕ) (i : ℕ) (vs ms : List ℕ) : Type 0 where
  pub right : Right vs
  pub long : length vs ≡ length ws
  pub size : length ms ≡ length ns
  pub words : words_of vs (drop (2 * i) ps) ≡ words_of ws ps
  pub answers : take i ms ++ answers_of vs (drop (2 * i) ps) ≡ answers_of ws ps

module _ (ws ps ns : List ℕ) where
  pub turn-none : Right ws → InTurn ws ps ns 0 ws ns
  turn-none r = record { right = r; long = refl; size = refl; words = refl; answers = refl }

  pair-front : (i : ℕ) → 2 * i + 1 < length ps → drop (2 * i) ps ≡ get_or ps (2 * i) 0 ∷ get_or ps (2 * i + 1) 0 ∷ drop (2 * (i + 1)) ps
  pair-front i l =
      let n : 2 * (i + 1) ≡ suc (suc (2 * i)) = omega arith in
      rw (n, add-one (2 * i)) (drop-cons ps (2 * i) 0 (omega arith) ∙ rw (drop-cons ps (suc (2 * i)) 0 (omega arith)))

  module _ (i : ℕ) (vs ms : List ℕ) (t : InTurn ws ps ns i vs ms) where
    pub turn_more : 2 * i + 1 < length ps → i < length ns → (x : ℕ) → x ≡ ask_number vs (get_or ps (2 * i) 0) (get_or ps (2 * i + 1) 0)
        → (us : List ℕ) → us ≡ ask_words vs (get_or ps (2 * i) 0) (get_or ps (2 * i + 1) 0) → InTurn ws ps ns (i + 1) us (set ms i x)
    unfolding words_of answers_of
    turn_more l h x q us w =
        let d = get_or ps (2 * i) 0 in
        let e = get_or ps (2 * i + 1) 0 in
        let rest = drop (2 * (i + 1)) ps in
        let f = pair-front i l in
        let a : take (i + 1) (set ms i x) ≡ take i ms ++ x ∷ [] = rw (add-one i) (take-suc-set ms i x (rw t.size h)) in
        record {
          right = rw w (ask-right vs t.right d e);
          long = rw w (ask-length vs d e ∙ t.long);
          size = length-set ms i x ∙ t.size;
          words = rw w (sym (ap (words_of vs) f) ∙ t.words);
          answers = rw (a, q, w) (append_assoc (take i ms) (ask_number vs d e ∷ []) (answers_of (ask_words vs d e) rest) ∙ sym (ap (λ v. take i ms ++ answers_of vs v) f) ∙ t.answers);
        }

    pub turn-all : length ps ≤ 2 * i → length ns ≤ i → (ms ≡ answers_of ws ps) × (vs ≡ words_of ws ps)
    unfolding words_of answers_of
    turn-all l h =
        let n : drop (2 * i) ps ≡ [] = drop_of_length-le ps l in
        let a = rw n at t.answers in
        let w = rw n at t.words in
        (sym (take_all i ms (rw t.size h)) ∙ sym (append-nil (take i ms)) ∙ a, w)

-- where every ask of the book gives n and leaves it as it is
pub all_alike : (ws : List ℕ) (n : ℕ) → ((d e : ℕ) → (ask_number ws d e ≡ n) × (ask_words ws d e ≡ ws)) → (ps : List ℕ) (m : ℕ) → length ps ≡ 2 * m
    → (answers_of ws ps ≡ replicate m n) × (words_of ws ps ≡ ws)
unfolding answers_of words_of
all_alike ws n h [] zero l = (refl, refl)
all_alike ws n h [] (suc m) l = absurd (omega arith)
all_alike ws n h (d ∷ []) m l = absurd (omega arith)
all_alike ws n h (d ∷ e ∷ ps) zero l = absurd (omega arith)
all_alike ws n h (d ∷ e ∷ ps) (suc m) l =
    let a = h d e in
    let r = all_alike ws n h ps m (omega arith) in
    rw (a.0, a.1) (ap (λ v. n ∷ v) r.0, r.1)
