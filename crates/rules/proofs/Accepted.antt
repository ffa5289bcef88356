-- What an accepted call has passed: where the number is 0, no rule of its list is broken.
use mathlib.Core.Path.{◌≡◌, refl, sym, ap, ◌∙◌}
use mathlib.Core.Bool.{Bool, true, false, cond, not, ◌&&◌, ◌||◌, true≢false}
use mathlib.Core.Logic.{◌⊎◌, inl, inr}
use mathlib.Core.List.{List, [], ◌∷◌, ◌++◌, map}
use Prim.Native.Nat.{ℕ, zero, suc, ◌*◌, ◌/◌, ◌%◌, ◌≤◌, ◌<◌}
use native.Mathlib.Omega.{arith}
use lib.ListN.{length, length-append, length-replicate}
use lib.Dec.{eqb, ltb, leb}
use lib.IntN.{ℤ}
use lib.Ieee.{Float}
use lib.Ieee.Scale.{finite}
use borrow.Author.Tests.{not-true, not-false, ltb-true, ltb-false, leb-false, eqb-true, eqb-false, eq-eqb, ne_eqb, lt-ltb, le-ltb}
use Rattle.rules.specs.Lists.{up_to, any_of, all_of, repeats, sorted, filled}
use Rattle.rules.specs.File.{file_dim, file_vertices, file_cells, file_spare, length_of, cells_in_file, out_of, twice, pad_set}
use Rattle.rules.specs.Book.{dim, count, key, held, needs, row_of, frame_right, rows_right}
use Rattle.rules.specs.Calls.{Rule, rule, first_broken, loaded, file_rules, load_rules, load_number, load_words, added, make_rules, make_number, make_words, asked, ask_rules, ask_number, ask_words, words_of, pairs_off, list_rules, list_number, list_words, row_rules, row_number, row_part, found_in, read_in, find_rules, find_number, find_found, find_read, differs, has_to_make, dropped, drop_rules, drop_number, drop_words, euler_rules, euler_number}
use Rattle.rules.specs.Phases.{counted}
use Rattle.rules.specs.Closures.{lengths_right, close_rules, close_number}
use Rattle.rules.specs.Boxes.{coordinate_rules, box_rules, box_number, whole_rules, whole_number}
use Rattle.rules.specs.Salvage.{Headed, saved_length, salvage_rules, salvage_number}
use Rattle.rules.specs.Truth.{number, incident}
use Rattle.rules.specs.Plain.{mesh_in, plain_rules, plain_number, plain_yes}
use Rattle.rules.proofs.Tests.{left, right, or_cases, neither, none_of}
use Rattle.rules.proofs.Keep.{up_to-of}

-- where the answer is 0 and no rule's answer is, no rule was broken
pub unbroken : (rs : List (Rule ℕ)) → all_of (λ r. ltb 0 r.answer) rs ≡ true → first_broken rs 0 ≡ 0 → all_of (λ r. not r.broken) rs ≡ true
unfolding all_of first_broken
unbroken [] p h = refl
unbroken (r ∷ rs) p h = go r.broken refl h (unbroken rs (right (ltb 0 r.answer) _ p))
  where
    l : 0 < r.answer
    l = search (left, ltb-true)

    go : (b : Bool) → r.broken ≡ b → cond b r.answer (first_broken rs 0) ≡ 0
        → (first_broken rs 0 ≡ 0 → all_of (λ r. not r.broken) rs ≡ true) → (not r.broken && all_of (λ r. not r.broken) rs) ≡ true
    go true q h ih = absurd (omega (arith, l))
    go false q h ih = rw q (ih h)

-- rules whose answers carry more than a number: the answer's number is that of the rules with their numbers alone
pub first-number {ℓ} : {A : Type ℓ} (n : A → ℕ) (rs : List (Rule A)) (a : A) → n (first_broken rs a) ≡ first_broken (map (λ r. rule r.broken (n r.answer)) rs) (n a)
unfolding first_broken
first-number n [] a = refl
first-number n (r ∷ rs) a = go r.broken (first-number n rs a)
  where
    go : (b : Bool) → n (first_broken rs a) ≡ first_broken (map (λ r. rule r.broken (n r.answer)) rs) (n a)
        → n (cond b r.answer (first_broken rs a)) ≡ cond b (n r.answer) (first_broken (map (λ r. rule r.broken (n r.answer)) rs) (n a))
    go true e = refl
    go false e = e

-- rules behind other rules: their answer counts where none of the first is broken
pub first-append : (rs qs : List (Rule ℕ)) → all_of (λ r. ltb 0 r.answer) rs ≡ true
    → first_broken (rs ++ qs) 0 ≡ cond (eqb (first_broken rs 0) 0) (first_broken qs 0) (first_broken rs 0)
unfolding all_of first_broken
first-append [] qs p = refl
first-append (r ∷ rs) qs p = go r.broken (first-append rs qs (right (ltb 0 r.answer) _ p))
  where
    l : 0 < r.answer
    l = search (left, ltb-true)

    go : (b : Bool) → first_broken (rs ++ qs) 0 ≡ cond (eqb (first_broken rs 0) 0) (first_broken qs 0) (first_broken rs 0)
        → cond b r.answer (first_broken (rs ++ qs) 0)
        ≡ cond (eqb (cond b r.answer (first_broken rs 0)) 0) (first_broken qs 0) (cond b r.answer (first_broken rs 0))
    go true e = rw (ne_eqb r.answer 0 (omega (arith, l)))
    go false e = e

pub length-filled : (n : ℕ) (ws : List ℕ) → length ws ≤ n → length (filled n ws) ≡ n
unfolding filled
length-filled n ws l = rw (length-append, length-replicate) (omega arith)

-- ---- Load
pub record Loads (f ws : List ℕ) : Type 0 where
  pub low : 0 < file_dim f
  pub vertices : file_vertices f ≤ 8192
  pub cells : file_cells f ≤ 4096
  pub spare : file_spare f ≡ 0
  pub size : length f ≡ length_of (file_dim f) (file_cells f)
  pub within : any_of (out_of (file_vertices f)) (cells_in_file f) ≡ false
  pub apart : any_of twice (cells_in_file f) ≡ false
  pub unlike : repeats (map sorted (cells_in_file f)) ≡ false
  pub ended : pad_set f ≡ false
  pub fits : length (loaded f) ≤ length ws

load-rules : (f ws : List ℕ) → load_number f ws ≡ 0 → all_of (λ r. not r.broken) (load_rules f ws) ≡ true
unfolding load_number
load-rules f ws h = unbroken (load_rules f ws) (unfold all_of load_rules file_rules in refl) h

pub loads : (f ws : List ℕ) → load_number f ws ≡ 0 → Loads f ws
unfolding load_rules file_rules all_of
loads f ws h =
    let r = load-rules f ws h in
    record {
      low = let n : eqb (file_dim f) 0 ≡ false = search (left, right, not-true) depth 13 in let z = eqb-false (file_dim f) 0 n in omega arith;
      vertices = search (left, right, not-true, ltb-false) depth 14;
      cells = search (left, right, not-true, ltb-false) depth 14;
      spare = let n : ltb 0 (file_spare f) ≡ false = search (left, right, not-true) depth 13 in let z = ltb-false 0 (file_spare f) n in omega arith;
      size = let n : not (not (eqb (length f) (length_of (file_dim f) (file_cells f)))) ≡ true = search (left, right) depth 13 in eqb-true _ _ (not-false _ (not-true _ n));
      within = search (left, right, not-true) depth 13;
      apart = search (left, right, not-true) depth 13;
      unlike = search (left, right, not-true) depth 13;
      ended = search (left, right, not-true) depth 13;
      fits = search (left, right, not-true, ltb-false) depth 14;
    }

-- and it is accepted if all that holds
-- a file without a fault is refused with 13 alone, where the book is too short
pub load-room : (f us ws : List ℕ) → Loads f us → load_number f ws ≡ cond (ltb (length ws) (length (loaded f))) 13 0
unfolding load_number load_rules file_rules first_broken
load-room f us ws a =
    let l : 4 ≤ length f = rw a.size (unfold length_of in omega arith) in
    rw (le-ltb (length f) 4 l, ne_eqb (file_dim f) 0 (omega (arith, a.low)), le-ltb 8192 (file_vertices f) a.vertices, le-ltb 4096 (file_cells f) a.cells, le-ltb 0 (file_spare f) (omega (arith, a.spare)), eq-eqb (length f) (length_of (file_dim f) (file_cells f)) a.size, a.within, a.apart, a.unlike, a.ended)

pub accepts : (f ws : List ℕ) → Loads f ws → load_number f ws ≡ 0
accepts f ws a = load-room f ws ws a ∙ rw (le-ltb (length ws) (length (loaded f)) a.fits)

pub load-accepted : (f ws : List ℕ) → load_number f ws ≡ 0 → load_words f ws ≡ filled (length ws) (loaded f)
unfolding load_words
load-accepted f ws h = rw h

pub load-refused : (f ws : List ℕ) → eqb (load_number f ws) 0 ≡ false → load_words f ws ≡ ws
unfolding load_words
load-refused f ws h = rw h

-- ---- Make
pub record Makes (ws : List ℕ) (d e : ℕ) : Type 0 where
  pub first : d ≤ dim ws
  pub second : e ≤ dim ws
  pub new : held ws (key d e) ≡ false
  pub needed : all_of (held ws) (needs (dim ws) d e) ≡ true
  pub alike : e ≡ 0 → differs ws d ≡ false
  pub fits : length (added ws d e) ≤ length ws

make-rules : (ws : List ℕ) (d e : ℕ) → make_number ws d e ≡ 0 → all_of (λ r. not r.broken) (make_rules ws d e) ≡ true
unfolding make_number
make-rules ws d e h = unbroken (make_rules ws d e) (unfold all_of make_rules in refl) h

pub makes : (ws : List ℕ) (d e : ℕ) → make_number ws d e ≡ 0 → Makes ws d e
unfolding make_rules all_of
makes ws d e h =
    let r = make-rules ws d e h in
    let n : not (ltb (dim ws) d || ltb (dim ws) e) ≡ true = search (left, right) depth 9 in
    let o = neither (ltb (dim ws) d) (ltb (dim ws) e) n in
    let q : not (not (all_of (held ws) (needs (dim ws) d e))) ≡ true = search (left, right) depth 9 in
    record {
      first = ltb-false (dim ws) d o.0;
      second = ltb-false (dim ws) e o.1;
      new = search (left, right, not-true) depth 9;
      needed = not-false _ (not-true _ q);
      alike = λ z. let b : not (eqb e 0 && differs ws d) ≡ true = search (left, right) depth 9 in rw (eq-eqb e 0 z) at (not-true (eqb e 0 && differs ws d) b);
      fits = search (left, right, not-true, ltb-false) depth 9;
    }

pub make-is : (ws : List ℕ) (d e : ℕ) → make_words ws d e ≡ cond (eqb (make_number ws d e) 0) (filled (length ws) (added ws d e)) ws
unfolding make_words
make-is ws d e = refl

-- ---- Ask
pub record Asks (ws : List ℕ) (d e : ℕ) : Type 0 where
  pub first : d ≤ dim ws
  pub second : e ≤ dim ws
  pub alike : (x : ℕ) → x < 3 → held ws (key x 0) ≡ false → held (asked ws d e) (key x 0) ≡ true → differs ws x ≡ false
  pub fits : length (asked ws d e) ≤ length ws

ask-rules : (ws : List ℕ) (d e : ℕ) → ask_number ws d e ≡ 0 → all_of (λ r. not r.broken) (ask_rules ws d e) ≡ true
unfolding ask_number
ask-rules ws d e h = unbroken (ask_rules ws d e) (unfold all_of ask_rules in refl) h

pub to_make : (ws : List ℕ) (d e x : ℕ) → held ws (key x 0) ≡ false → held (asked ws d e) (key x 0) ≡ true → has_to_make ws d e x ≡ true
unfolding has_to_make
to_make ws d e x f t = rw (f, t)

pub asks : (ws : List ℕ) (d e : ℕ) → ask_number ws d e ≡ 0 → Asks ws d e
unfolding ask_rules all_of
asks ws d e h =
    let r = ask-rules ws d e h in
    let n : not (ltb (dim ws) d || ltb (dim ws) e) ≡ true = search (left, right) depth 9 in
    let o = neither (ltb (dim ws) d) (ltb (dim ws) e) n in
    let b : not (any_of (λ x. has_to_make ws d e x && differs ws x) (up_to 3)) ≡ true = search (left, right) depth 9 in
    record {
      first = ltb-false (dim ws) d o.0;
      second = ltb-false (dim ws) e o.1;
      alike = λ x l f t. rw (to_make ws d e x f t) at (none_of (λ y. has_to_make ws d e y && differs ws y) (not-true (any_of (λ y. has_to_make ws d e y && differs ws y) (up_to 3)) b) (up_to-of x 3 l));
      fits = search (left, right, not-true, ltb-false) depth 9;
    }

pub ask-is : (ws : List ℕ) (d e : ℕ) → ask_words ws d e ≡ cond (eqb (ask_number ws d e) 0) (filled (length ws) (asked ws d e)) ws
unfolding ask_words
ask-is ws d e = refl

pub ask-length : (ws : List ℕ) (d e : ℕ) → length (ask_words ws d e) ≡ length ws
ask-length ws d e =
    rw (ask-is ws d e) (go (eqb (ask_number ws d e) 0) refl)
  where
    go : (b : Bool) → eqb (ask_number ws d e) 0 ≡ b → length (cond b (filled (length ws) (asked ws d e)) ws) ≡ length ws
    go true q = length-filled (length ws) (asked ws d e) (asks ws d e (eqb-true (ask_number ws d e) 0 q)).fits
    go false q = refl

-- ---- a list of asks
pub pairs-two : (p n : ℕ) → pairs_off p n ≡ false → p ≡ 2 * n
unfolding pairs_off
pairs-two p n h =
    let a = neither (eqb (p % 2) 1 || ltb _ (p / 2)) (not (eqb n (p / 2))) (ap not h) in
    let b = neither (eqb (p % 2) 1) (ltb _ (p / 2)) (ap not a.0) in
    let odd = eqb-false (p % 2) 1 b.0 in
    let fits = eqb-true n (p / 2) (not-false _ a.1) in
    omega arith

pub list-accepted : (ps ns : List ℕ) → list_number ps ns ≡ 0 → length ps ≡ 2 * length ns
unfolding list_number list_rules first_broken
list-accepted ps ns h =
    pairs-two (length ps) (length ns) (go (pairs_off (length ps) (length ns)) h)
  where
    go : (b : Bool) → ◌≡◌ {A = ℕ} (cond b 20 0) 0 → b ≡ false
    go true q = absurd (omega arith)
    go false q = refl

-- what every ask keeps, a list of asks keeps
module _ (P : List ℕ → Type 0) (keeps : (ws : List ℕ) (d e : ℕ) → P ws → P (ask_words ws d e)) where
  words-keep : (ps ws : List ℕ) → P ws → P (words_of ws ps)
  unfolding words_of
  words-keep [] ws h = h
  words-keep (d ∷ []) ws h = h
  words-keep (d ∷ e ∷ ps) ws h = words-keep ps (ask_words ws d e) (keeps ws d e h)

  pub list-keep : (ws ps ns : List ℕ) → P ws → P (list_words ws ps ns)
  unfolding list_words
  list-keep ws ps ns h =
      go (eqb (list_number ps ns) 0)
    where
      go : (b : Bool) → P (cond b (words_of ws ps) ws)
      go true = words-keep ps ws h
      go false = h

-- ---- Drop
pub record Drops (ws : List ℕ) (d e : ℕ) : Type 0 where
  pub first : d ≤ dim ws
  pub second : e ≤ dim ws
  pub there : held ws (key d e) ≡ true
  pub inner : d ≡ dim ws → e ≡ 0 → ⊥

drop-rules : (ws : List ℕ) (d e : ℕ) → drop_number ws d e ≡ 0 → all_of (λ r. not r.broken) (drop_rules ws d e) ≡ true
unfolding drop_number
drop-rules ws d e h = unbroken (drop_rules ws d e) (unfold all_of drop_rules in refl) h

pub drops : (ws : List ℕ) (d e : ℕ) → drop_number ws d e ≡ 0 → Drops ws d e
unfolding drop_rules all_of
drops ws d e h =
    let r = drop-rules ws d e h in
    let n : not (ltb (dim ws) d || ltb (dim ws) e) ≡ true = search (left, right) depth 9 in
    let o = neither (ltb (dim ws) d) (ltb (dim ws) e) n in
    let q : not (not (held ws (key d e))) ≡ true = search (left, right) depth 9 in
    let b : not (eqb d (dim ws) && eqb e 0) ≡ true = search (left, right) depth 9 in
    record {
      first = ltb-false (dim ws) d o.0;
      second = ltb-false (dim ws) e o.1;
      there = not-false _ (not-true _ q);
      inner = λ x y. true≢false (rw (eq-eqb d (dim ws) x, eq-eqb e 0 y) at (not-true (eqb d (dim ws) && eqb e 0) b));
    }

pub drop-is : (ws : List ℕ) (d e : ℕ) → drop_words ws d e ≡ cond (eqb (drop_number ws d e) 0) (filled (length ws) (dropped ws d e)) ws
unfolding drop_words
drop-is ws d e = refl

pub drop-accepted : (ws : List ℕ) (d e : ℕ) → drop_number ws d e ≡ 0 → drop_words ws d e ≡ filled (length ws) (dropped ws d e)
drop-accepted ws d e h = drop-is ws d e ∙ rw h

-- ---- Row
pub record Rowed (ws : List ℕ) (d e i : ℕ) : Type 0 where
  pub first : d ≤ dim ws
  pub second : e ≤ dim ws
  pub there : held ws (key d e) ≡ true
  pub below : i < count ws d

row-rules : (ws : List ℕ) (d e i : ℕ) → row_number ws d e i ≡ 0 → all_of (λ r. not r.broken) (row_rules ws d e i) ≡ true
unfolding row_number
row-rules ws d e i h = unbroken (row_rules ws d e i) (unfold all_of row_rules in refl) h

pub rowed : (ws : List ℕ) (d e i : ℕ) → row_number ws d e i ≡ 0 → Rowed ws d e i
unfolding row_rules all_of
rowed ws d e i h =
    let r = row-rules ws d e i h in
    let n : not (ltb (dim ws) d || ltb (dim ws) e) ≡ true = search (left, right) depth 9 in
    let o = neither (ltb (dim ws) d) (ltb (dim ws) e) n in
    let q : not (not (held ws (key d e))) ≡ true = search (left, right) depth 9 in
    record {
      first = ltb-false (dim ws) d o.0;
      second = ltb-false (dim ws) e o.1;
      there = not-false _ (not-true _ q);
      below = search (left, right, not-true, leb-false) depth 9;
    }

pub row_is : (ws : List ℕ) (d e i : ℕ) → row_part ws d e i ≡ cond (eqb (row_number ws d e i) 0) (row_of ws (key d e) i) []
unfolding row_part
row_is ws d e i = refl

-- ---- Find
-- Find's number is Row's, and 19 where Row accepts and j is N_e or more
pub find-is : (ws : List ℕ) (d e i j : ℕ) → find_number ws d e i j ≡ cond (eqb (row_number ws d e i) 0) (cond (leb (count ws e) j) 19 0) (row_number ws d e i)
unfolding find_number find_rules row_number
find-is ws d e i j = first-append (row_rules ws d e i) _ (unfold all_of row_rules in refl) ∙ unfold first_broken in refl

-- an accepted Find has an accepted row, and j is below N_e
pub finds : (ws : List ℕ) (d e i j : ℕ) → find_number ws d e i j ≡ 0 → (row_number ws d e i ≡ 0) × (j < count ws e)
finds ws d e i j h = go (eqb (row_number ws d e i) 0) refl (leb (count ws e) j) refl (sym (find-is ws d e i j) ∙ h)
  where
    go : (a : Bool) → eqb (row_number ws d e i) 0 ≡ a → (b : Bool) → leb (count ws e) j ≡ b → cond a (cond b 19 0) (row_number ws d e i) ≡ 0 → (row_number ws d e i ≡ 0) × (j < count ws e)
    go true p true q z = absurd (omega arith)
    go true p false q z = (eqb-true _ _ p, leb-false _ _ q)
    go false p b q z = absurd (eqb-false _ _ p z)

-- what comes with Find's number
pub find-accepted : (ws : List ℕ) (d e i j : ℕ) → find_number ws d e i j ≡ 0 → (find_found ws d e i j ≡ found_in j (row_of ws (key d e) i)) × (find_read ws d e i j ≡ read_in j (row_of ws (key d e) i))
unfolding find_found find_read
find-accepted ws d e i j h = (rw h, rw h)

pub find-refused : (ws : List ℕ) (d e i j : ℕ) → 0 < find_number ws d e i j → (find_found ws d e i j ≡ false) × (find_read ws d e i j ≡ 0)
unfolding find_found find_read
find-refused ws d e i j l = let n = ne_eqb (find_number ws d e i j) 0 (omega arith) in (rw n, rw n)

-- ---- Euler: d→0 is held for each 0 < d < D
pub eulers : (ws : List ℕ) → euler_number ws ≡ 0 → (d : ℕ) → 0 < d → d < dim ws → d < 3 → held ws (key d 0) ≡ true
unfolding euler_number euler_rules all_of
eulers ws h d p l t =
    let r = unbroken (euler_rules ws) (unfold all_of euler_rules in refl) h in
    let n : not ((ltb 1 (dim ws) && not (held ws (key 1 0))) || (ltb 2 (dim ws) && not (held ws (key 2 0)))) ≡ true = search (left, right) depth 9 in
    let o = neither (ltb 1 (dim ws) && not (held ws (key 1 0))) (ltb 2 (dim ws) && not (held ws (key 2 0))) n in
    go d p t l o.0 o.1
  where
    go : (d : ℕ) → 0 < d → d < 3 → d < dim ws → (ltb 1 (dim ws) && not (held ws (key 1 0))) ≡ false → (ltb 2 (dim ws) && not (held ws (key 2 0))) ≡ false → held ws (key d 0) ≡ true
    go zero p t l a b = absurd (omega arith)
    go (suc zero) p t l a b = not-false _ (rw (lt-ltb 1 (dim ws) l) at a)
    go (suc (suc zero)) p t l a b = not-false _ (rw (lt-ltb 2 (dim ws) l) at b)
    go (suc (suc (suc d))) p t l a b = absurd (omega arith)

-- ---- phase closures
pub record Closes (ws : List ℕ) (counts : List ℤ) (closures steps bytes : ℕ) : Type 0 where
  pub frame : frame_right ws ≡ true
  pub rows : rows_right ws ≡ true
  pub over : dim ws ≡ 1 → ⊥
  pub edges : held ws (key 1 0) ≡ true
  pub faces : held ws (key 2 0) ≡ true
  pub a-vertex : length counts ≡ count ws 0
  pub a-face : closures ≡ count ws 2
  pub an-edge : steps ≡ count ws 1
  pub a_byte : bytes ≡ count ws 1
  pub lent : all_of counted counts ≡ true

pub closes : (ws : List ℕ) (counts : List ℤ) (closures steps bytes : ℕ) → close_number ws counts closures steps bytes ≡ 0 → Closes ws counts closures steps bytes
unfolding close_number close_rules all_of lengths_right
closes ws counts closures steps bytes z =
    let u = unbroken (close_rules ws counts closures steps bytes) refl z in
    let f : frame_right ws ≡ true = search (left, right, not-true, not-false) depth 12 in
    let r : rows_right ws ≡ true = search (left, right, not-true, not-false) depth 12 in
    let d : eqb (dim ws) 1 ≡ false = search (left, right, not-true, not-false) depth 12 in
    let h : (held ws (key 1 0) && held ws (key 2 0)) ≡ true = search (left, right, not-true, not-false) depth 12 in
    let l : (eqb (length counts) (count ws 0) && (eqb closures (count ws 2) && (eqb steps (count ws 1) && eqb bytes (count ws 1)))) ≡ true = search (left, right, not-true, not-false) depth 14 in
    let c : all_of counted counts ≡ true = search (left, right, not-true, not-false) depth 16 in
    record {
      frame = f;
      rows = r;
      over = eqb-false (dim ws) 1 d;
      edges = left (held ws (key 1 0)) (held ws (key 2 0)) h;
      faces = right (held ws (key 1 0)) (held ws (key 2 0)) h;
      a-vertex = search (left, right, eqb-true) depth 12;
      a-face = search (left, right, eqb-true) depth 12;
      an-edge = search (left, right, eqb-true) depth 12;
      a_byte = search (left, right, eqb-true) depth 12;
      lent = c;
    }

-- ---- boxes
-- the lent coordinates: two or three finite floats a vertex
pub record Lent (ws : List ℕ) (coordinates : List Float) (axes : ℕ) : Type 0 where
  pub across : (axes ≡ 2) ⊎ (axes ≡ 3)
  pub a-vertex : length coordinates ≡ axes * count ws 0
  pub numbers : all_of finite coordinates ≡ true

lent : (ws : List ℕ) (coordinates : List Float) (axes : ℕ) → all_of (λ r. not r.broken) (coordinate_rules ws coordinates axes) ≡ true → Lent ws coordinates axes
unfolding coordinate_rules all_of
lent ws coordinates axes u =
    let a : (eqb axes 2 || eqb axes 3) ≡ true = search (left, right, not-true, not-false) depth 9 in
    let l : eqb (length coordinates) (axes * count ws 0) ≡ true = search (left, right, not-true, not-false) depth 9 in
    record {
      across = elim (or_cases (eqb axes 2) (eqb axes 3) a) [ inl x ↦ inl (eqb-true axes 2 x) | inr y ↦ inr (eqb-true axes 3 y) ];
      a-vertex = eqb-true _ _ l;
      numbers = search (left, right, not-true, not-false) depth 9;
    }

pub record Boxes (ws : List ℕ) (coordinates : List Float) (axes d i : ℕ) : Type 0 where
  pub frame : frame_right ws ≡ true
  pub rows : rows_right ws ≡ true
  pub first : d ≤ dim ws
  pub there : 0 < d → held ws (key d 0) ≡ true
  pub below : i < count ws d
  pub lent : Lent ws coordinates axes

pub boxes : (ws : List ℕ) (coordinates : List Float) (axes d i : ℕ) → box_number ws coordinates axes d i ≡ 0 → Boxes ws coordinates axes d i
unfolding box_number box_rules all_of
boxes ws coordinates axes d i z =
    let u = unbroken (box_rules ws coordinates axes d i) (unfold coordinate_rules in refl) z in
    let h : not (ltb 0 d && not (held ws (key d 0))) ≡ true = search (left, right) depth 9 in
    let c : all_of (λ r. not r.broken) (coordinate_rules ws coordinates axes) ≡ true = search (left, right) depth 9 in
    record {
      frame = search (left, right, not-true, not-false) depth 9;
      rows = search (left, right, not-true, not-false) depth 9;
      first = search (left, right, not-true, ltb-false) depth 9;
      there = λ l. not-false _ (rw (lt-ltb 0 d l) at (not-true (ltb 0 d && not (held ws (key d 0))) h));
      below = search (left, right, not-true, leb-false) depth 9;
      lent = lent ws coordinates axes c;
    }

pub record Wholes (ws : List ℕ) (coordinates : List Float) (axes : ℕ) : Type 0 where
  pub frame : frame_right ws ≡ true
  pub rows : rows_right ws ≡ true
  pub lent : Lent ws coordinates axes

pub wholes : (ws : List ℕ) (coordinates : List Float) (axes : ℕ) → whole_number ws coordinates axes ≡ 0 → Wholes ws coordinates axes
unfolding whole_number whole_rules all_of
wholes ws coordinates axes z =
    let u = unbroken (whole_rules ws coordinates axes) (unfold coordinate_rules in refl) z in
    let c : all_of (λ r. not r.broken) (coordinate_rules ws coordinates axes) ≡ true = search (left, right) depth 9 in
    record {
      frame = search (left, right, not-true, not-false) depth 9;
      rows = search (left, right, not-true, not-false) depth 9;
      lent = lent ws coordinates axes c;
    }

-- ---- salvage
pub record Salvages (f bytes list : List ℕ) : Type 0 where
  pub head : Headed f
  pub room : saved_length f ≤ length bytes
  pub places : 2 * file_cells f ≤ length list

pub salvages : (f bytes list : List ℕ) → salvage_number f bytes list ≡ 0 → Salvages f bytes list
unfolding salvage_number salvage_rules all_of
salvages f bytes list h =
    let r = unbroken (salvage_rules f bytes list) refl h in
    record {
      head = record {
        long = search (left, right, not-true, ltb-false) depth 10;
        low = let n : eqb (file_dim f) 0 ≡ false = search (left, right, not-true) depth 10 in let z = eqb-false (file_dim f) 0 n in omega arith;
        vertices = search (left, right, not-true, ltb-false) depth 10;
        cells = search (left, right, not-true, ltb-false) depth 10;
      };
      room = search (left, right, not-true, ltb-false) depth 10;
      places = search (left, right, not-true, ltb-false) depth 10;
    }

-- and it is accepted if all that holds
pub salvage-accepts : (f bytes list : List ℕ) → Salvages f bytes list → salvage_number f bytes list ≡ 0
unfolding salvage_number salvage_rules first_broken
salvage-accepts f bytes list a =
    let h = a.head in
    rw (le-ltb (length f) 4 h.long, ne_eqb (file_dim f) 0 (omega (arith, h.low)), le-ltb 8192 (file_vertices f) h.vertices, le-ltb 4096 (file_cells f) h.cells, le-ltb (length bytes) (saved_length f) a.room, le-ltb (length list) (2 * file_cells f) a.places)

-- ---- a plain engine
pub record Plains (ws : List ℕ) (d e i j : ℕ) : Type 0 where
  pub frame : frame_right ws ≡ true
  pub rows : rows_right ws ≡ true
  pub first : d ≤ dim ws
  pub second : e ≤ dim ws
  pub below : i < number (mesh_in ws) d
  pub other : j < number (mesh_in ws) e

pub plains : (ws : List ℕ) (d e i j : ℕ) → plain_number ws d e i j ≡ 0 → Plains ws d e i j
unfolding plain_number plain_rules all_of
plains ws d e i j z =
    let r = unbroken (plain_rules ws d e i j) refl z in
    let n : not (ltb (dim ws) d || ltb (dim ws) e) ≡ true = search (left, right) depth 9 in
    let o = neither (ltb (dim ws) d) (ltb (dim ws) e) n in
    record {
      frame = search (left, right, not-true, not-false) depth 9;
      rows = search (left, right, not-true, not-false) depth 9;
      first = ltb-false (dim ws) d o.0;
      second = ltb-false (dim ws) e o.1;
      below = search (left, right, not-true, leb-false) depth 9;
      other = search (left, right, not-true, leb-false) depth 9;
    }

-- what comes with its number
pub plain-accepted : (ws : List ℕ) (d e i j : ℕ) → plain_number ws d e i j ≡ 0 → plain_yes ws d e i j ≡ incident (mesh_in ws) d e i j
unfolding plain_yes
plain-accepted ws d e i j z = rw z

pub plain-refused : (ws : List ℕ) (d e i j : ℕ) → 0 < plain_number ws d e i j → plain_yes ws d e i j ≡ false
unfolding plain_yes
plain-refused ws d e i j l = rw (ne_eqb (plain_number ws d e i j) 0 (omega arith))
