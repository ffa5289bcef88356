-- The loops over a cell's candidates and over the cells: what is met so far.
use mathlib.Core.Path.{◌≡◌, refl, sym, ap, ◌∙◌}
use mathlib.Core.Bool.{true, false, cond}
use mathlib.Core.List.{List, [], ◌∷◌, ◌++◌, map}
use Prim.Native.Nat.{ℕ, zero, suc, ◌+◌, ◌-◌, ◌*◌, ◌≤◌, ◌<◌}
use native.Mathlib.Nat.{add-zero}
use native.Mathlib.Numerals.{add-one}
use native.Mathlib.Omega.{arith}
use borrow.Author.Tests.{ltb-true}
use lib.ListN.{length, get_or, take, length-map, length-append}
use lib.Dec.{ltb, eqb}
use lib.Seq.{take-suc, get_or-take, length-take-le, ext_get_or}
use Rattle.rules.specs.Lists.{up_to, any_of, same, choose}
use Rattle.rules.specs.Book.{most}
use Rattle.rules.specs.Made.{met, met_all, built}
use Rattle.rules.proofs.Tests.{get_or-in, all-at}
use Rattle.rules.proofs.Choose.{Chosen, chosen}
use Rattle.rules.proofs.Numbered.{get_d_map}
use Rattle.rules.proofs.Joined.{map_last}
use Rattle.relations.specs.Words.{part, start_of, row_at}
use Rattle.relations.proofs.Placed.{part_at, part_length, rows_fit}
use Rattle.building.specs.Sets.{padded}
use Rattle.building.specs.Cells.{Between, Corners, Candidates}
use Rattle.rules.proofs.Built.{built-last}
use Rattle.building.proofs.Padding.{met_all-last, padded-all, padded-length, padded-first}

-- ---- the candidates of one cell
-- a candidate is one entity more, or none
pub met-few : (es : List (List ℕ)) (s : List ℕ) → length (met es s) ≤ length es + 1
unfolding met
met-few es s = elim (any_of (same s) es) as (λ b. length (cond b es (es ++ (s ∷ []))) ≤ length es + 1) [ true ↦ omega arith | false ↦ omega (arith, length-append es (s ∷ [])) ]

pub met_all-few : (es ss : List (List ℕ)) → length (met_all es ss) ≤ length es + length ss
unfolding met_all
met_all-few es [] = omega arith
met_all-few es (s ∷ ss) = omega (arith, met-few es s, met_all-few (met es s) ss)

-- one candidate more
pub meeting-more : (es candidates now : List (List ℕ)) (j : ℕ) → now ≡ met_all es (take j candidates) → j < length candidates
    → met now (get_or candidates j []) ≡ met_all es (take (j + 1) candidates)
meeting-more es candidates now j e l =
    rw e (sym (met_all-last es (take j candidates) (get_or candidates j [])) ∙ rw (add-one j, take-suc candidates j [] l))

-- ---- the cells
pub most-few : (D d : ℕ) → most D d ≤ 6
unfolding most
most-few D d = elim (eqb D 2) as (λ b. cond b 3 (cond (eqb d 1) 6 4) ≤ 6) [
  | true ↦ omega arith
  | false ↦ elim (eqb d 1) as (λ b. cond b 6 4 ≤ 6) [ true ↦ omega arith | false ↦ omega arith ]
]

module _ (ws : List ℕ) (a : ℕ) where
  -- four words
  abbrev four : List ℕ
  four = get_or ws a 0 ∷ get_or ws (a + 1) 0 ∷ get_or ws (a + 2) 0 ∷ get_or ws (a + 3) 0 ∷ []

  four-at : (i : ℕ) → i < 4 → get_or four i 0 ≡ get_or ws (a + i) 0
  four-at zero l = rw add-zero
  four-at (suc zero) l = refl
  four-at (suc (suc zero)) l = refl
  four-at (suc (suc (suc zero))) l = refl
  four-at (suc (suc (suc (suc i)))) l = absurd (omega arith)

module _ {ws : List ℕ} {D at n : ℕ} (q : Corners ws D at n) (i : ℕ) (l : i < n) where
  abbrev start : ℕ
  start = at + n + 1 + get_or ws (at + i) 0

  abbrev size : ℕ
  size = get_or ws (at + (i + 1)) 0 - get_or ws (at + i) 0

  row_within : start + size ≤ length ws
  row_within = omega (arith, rows_fit q.rows (i + 1) (omega arith), q.rows.rise i l)

  row-size : size ≡ D + 1
  row-size = sym (part_length ws start size row_within) ∙ (unfold row_at in q.size i l)

  pub start-within : start_of ws at n i ≤ length ws
  unfolding start_of
  start-within = omega (arith, row_within)

  -- the first D + 1 of the four words from a row's start on are the row
  row-four : D ≤ 3 → take (D + 1) (four ws start) ≡ row_at ws at n i
  unfolding row_at
  row-four h =
      let a : length (take (D + 1) (four ws start)) ≡ D + 1 = length-take-le (D + 1) (four ws start) (omega arith) in
      ext_get_or 0 (take (D + 1) (four ws start)) (part ws start size)
      (a ∙ sym (part_length ws start size row_within ∙ row-size))
      (λ k m. get_or-take (D + 1) (four ws start) k 0 (omega arith) ∙ four-at ws start k (omega arith)
      ∙ sym (part_at ws start size k (omega (arith, row-size))))

  pub row-cell : D ≤ 3 → (a : ℕ) → a ≡ start_of ws at n i → (cell : List ℕ) → cell ≡ four ws a → take (D + 1) cell ≡ row_at ws at n i
  unfolding start_of
  row-cell h a e cell f = rw (f, e) (row-four h)

  -- what the cell's candidates have in them
  module _ {d : ℕ} (b : Between d D) (sets : List (List ℕ)) (six : length sets ≡ 6) (e : take (most D d) sets ≡ map (padded d) (choose (d + 1) (row_at ws at n i))) where
    abbrev chooses : List (List ℕ)
    chooses = choose (d + 1) (row_at ws at n i)

    many : length chooses ≡ most D d
    many =
        sym (length-map chooses (padded d)) ∙ sym (ap length e) ∙ length-take-le (most D d) sets (omega (arith, most-few D d))

    module _ (j : ℕ) (m : j < most D d) where
      is-padded : get_or sets j [] ≡ padded d (get_or chooses j [])
      is-padded =
          sym (get_or-take (most D d) sets j [] m) ∙ ap (λ (t : List (List ℕ)). get_or t j []) e
          ∙ get_d_map (padded d) chooses j [] [] (omega (arith, many))

      of-cell : Chosen (d + 1) (row_at ws at n i) (get_or chooses j [])
      of-cell = chosen (d + 1) (row_at ws at n i) (get_or chooses j []) (q.up i l) (get_or-in chooses j [] (omega (arith, many)))

      three : length (get_or sets j []) ≡ 3
      three = rw is-padded (padded-length d (get_or chooses j []) (omega (arith, b.high, b.most)) of-cell.size)

      low : get_or (get_or sets j []) 0 0 < 8192
      low =
          let t = get_or chooses j [] in
          let o : 0 < length t = omega (arith, of-cell.size) in
          let g : get_or (padded d t) 0 0 ≡ get_or t 0 0 = padded-first d t o in
          let h : get_or t 0 0 < 8192 = ltb-true _ _ (all-at (λ v. ltb v 8192) (q.below i l) (of-cell.within _ (get_or-in t 0 0 o))) in
          rw (is-padded, g) h

    pub cell-candidates : Candidates sets (most D d)
    cell-candidates = record { few = omega (arith, most-few D d); size = three; below = low }

-- the first n candidates by themselves
pub front-candidates : (sets : List (List ℕ)) (n : ℕ) → Candidates sets n → Candidates (take n sets) (length (take n sets))
front-candidates sets n w =
    let e : length (take n sets) ≡ n = length-take-le n sets w.few in
    rw e record {
      few = omega (arith, e);
      size = λ j l. rw (get_or-take n sets j [] l) (w.size j l);
      below = λ j l. rw (get_or-take n sets j [] l) (w.below j l);
    }

-- the candidates of i cells are met
pub record Found (ws : List ℕ) (at n d : ℕ) (es : List (List ℕ)) (i : ℕ) : Type 0 where
  pub found : es ≡ map (padded d) (built d [] (map (row_at ws at n) (up_to i)))
  pub few : length es ≤ 6 * i

pub found_none : (ws : List ℕ) (at n d : ℕ) (es : List (List ℕ)) → es ≡ [] → Found ws at n d es 0
unfolding up_to built
found_none ws at n d es e = record { found = e; few = rw e (omega arith) }

pub found-more : {ws : List ℕ} {at n d : ℕ} {es : List (List ℕ)} {i : ℕ} → Found ws at n d es i → (ss : List (List ℕ)) → length ss ≤ 6
    → ss ≡ map (padded d) (choose (d + 1) (row_at ws at n i)) → Found ws at n d (met_all es ss) (i + 1)
found-more {ws} {at} {n} {d} {es} {i} w ss l f = record {
  found =
      rw (w.found, f)
      (padded-all d (built d [] (map (row_at ws at n) (up_to i))) (choose (d + 1) (row_at ws at n i))
      ∙ rw (map_last (row_at ws at n) i) (ap (map (padded d)) (sym (built-last d [] (map (row_at ws at n) (up_to i)) (row_at ws at n i)))));
  few = omega (arith, w.few, met_all-few es ss);
}
