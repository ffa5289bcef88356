-- What the call answers, from the tests that were passed before: the number with what it carries, and with it the place, what is given, and the lent lists.
use mathlib.Core.Path.{◌≡◌, refl, sym, ap}
use mathlib.Core.Bool.{Bool, true, false, cond, not, ◌&&◌, ◌||◌}
use mathlib.Core.List.{List, [], ◌∷◌, ◌++◌, append-nil}
use mathlib.Core.Option.{none}
use Prim.Native.Nat.{ℕ, ◌*◌, ◌≤◌, ◌<◌}
use native.Mathlib.Omega.{arith}
use lib.ListN.{length, get_or, drop}
use lib.Dec.{eqb, ltb}
use lib.Seq.{drop-length}
use borrow.Author.Tests.{eq-eqb, ne_eqb, lt-ltb, le-ltb}
use Rattle.rules.specs.Lists.{up_to, any_of}
use Rattle.rules.specs.Book.{dim, count, key, held, frame_right, rows_right}
use Rattle.rules.specs.Broken.{broken_at, told}
use Rattle.rules.specs.Calls.{first_broken, at_front}
use Rattle.rules.specs.Sheet.{unused, branched, unmatched, across, rim_edges_of, rim_vertices_of, rim_file, rim_length_of, carried, Flat, Sheet, sheet_rules, sheet_answer, sheet_number, sheet_given, sheet_for, sheet_across, sheet_bytes, sheet_vertices, sheet_edges}
use Rattle.sheets.specs.Answers.{by_entities}

-- ---- the answer, by the lengths of the lent lists
module _ (ws : List ℕ) (a b v e : ℕ) where
  pub ten : frame_right ws ≡ false → 10 ∷ [] ≡ sheet_answer ws a b v e
  unfolding sheet_answer sheet_rules first_broken
  ten f = rw f

  pub eleven : frame_right ws ≡ true → rows_right ws ≡ false → 11 ∷ [] ≡ sheet_answer ws a b v e
  unfolding sheet_answer sheet_rules first_broken
  eleven f r = rw (f, r)

  module _ (f : frame_right ws ≡ true) (r : rows_right ws ≡ true) where
    pub other-dimension : (dim ws ≡ 2 → ⊥) → 28 ∷ 1 ∷ [] ≡ sheet_answer ws a b v e
    unfolding sheet_answer sheet_rules first_broken
    other-dimension n = rw (f, r, ne_eqb (dim ws) 2 n)

    pub fifteen : dim ws ≡ 2 → (held ws (key 1 0) && held ws (key 2 1) && held ws (key 1 2)) ≡ false → 15 ∷ [] ≡ sheet_answer ws a b v e
    unfolding sheet_answer sheet_rules first_broken
    fifteen d h = rw (f, r, eq-eqb (dim ws) 2 d, h)

  -- the refusals that the entities decide
  module _ (f : Flat ws) where
    pub by-entities : (w : List ℕ) → w ≡ by_entities ws → (w ≡ 0 ∷ [] → ⊥) → w ≡ sheet_answer ws a b v e
    unfolding sheet_answer sheet_rules first_broken by_entities
    by-entities w h n =
        rw (f.frame, f.rows, eq-eqb (dim ws) 2 f.two, f.ends, f.edges, f.cells)
        (go _ _ _ _ (any_of (unused ws) (up_to (count ws 0))) (any_of (branched ws) (up_to (count ws 1))) (any_of (unmatched ws) (up_to (count ws 2))) h)
      where
        go : (p q r s : List ℕ) (x y z : Bool) → w ≡ cond x p (cond y q (cond z r (0 ∷ []))) → w ≡ cond x p (cond y q (cond z r s))
        go p q r s true y z h = h
        go p q r s false true z h = h
        go p q r s false false true h = h
        go p q r s false false false h = absurd (n h)

  -- a sheet: the rules that are left
  module _ (s : Sheet ws) where
    left_over : sheet_answer ws a b v e
        ≡ first_broken
        (carried (ltb 4096 (length (rim_edges_of ws))) (29 ∷ [])
        ∷ carried (ltb b (rim_length_of ws)) (18 ∷ [])
        ∷ carried (not (eqb a (3 * count ws 2)) || ltb v (length (rim_vertices_of ws)) || ltb e (length (rim_edges_of ws))) (21 ∷ [])
        ∷ [])
        (0 ∷ [])
    unfolding sheet_answer sheet_rules first_broken
    left_over =
        let f = s.flat in
        rw (f.frame, f.rows, eq-eqb (dim ws) 2 f.two, f.ends, f.edges, f.cells, s.used, s.plain, s.matched)

    pub twenty-nine : 4096 < length (rim_edges_of ws) → 29 ∷ [] ≡ sheet_answer ws a b v e
    unfolding first_broken
    twenty-nine l = rw (left_over, lt-ltb 4096 (length (rim_edges_of ws)) l)

    module _ (few : length (rim_edges_of ws) ≤ 4096) where
      pub eighteen : b < rim_length_of ws → 18 ∷ [] ≡ sheet_answer ws a b v e
      unfolding first_broken
      eighteen l = rw (left_over, le-ltb 4096 (length (rim_edges_of ws)) few, lt-ltb b (rim_length_of ws) l)

      module _ (room : rim_length_of ws ≤ b) where
        pub across-off : (a ≡ 3 * count ws 2 → ⊥) → 21 ∷ [] ≡ sheet_answer ws a b v e
        unfolding first_broken
        across-off n = rw (left_over, le-ltb 4096 (length (rim_edges_of ws)) few, le-ltb b (rim_length_of ws) room, ne_eqb a (3 * count ws 2) n)

        module _ (places : a ≡ 3 * count ws 2) where
          pub vertices-short : v < length (rim_vertices_of ws) → 21 ∷ [] ≡ sheet_answer ws a b v e
          unfolding first_broken
          vertices-short l =
              rw (left_over, le-ltb 4096 (length (rim_edges_of ws)) few, le-ltb b (rim_length_of ws) room, eq-eqb a (3 * count ws 2) places, lt-ltb v (length (rim_vertices_of ws)) l)

          module _ (vertices : length (rim_vertices_of ws) ≤ v) where
            pub edges-short : e < length (rim_edges_of ws) → 21 ∷ [] ≡ sheet_answer ws a b v e
            unfolding first_broken
            edges-short l =
                rw (left_over, le-ltb 4096 (length (rim_edges_of ws)) few, le-ltb b (rim_length_of ws) room, eq-eqb a (3 * count ws 2) places, le-ltb v (length (rim_vertices_of ws)) vertices, lt-ltb e (length (rim_edges_of ws)) l)

            pub accepted : length (rim_edges_of ws) ≤ e → 0 ∷ [] ≡ sheet_answer ws a b v e
            unfolding first_broken
            accepted edges =
                rw (left_over, le-ltb 4096 (length (rim_edges_of ws)) few, le-ltb b (rim_length_of ws) room, eq-eqb a (3 * count ws 2) places, le-ltb v (length (rim_vertices_of ws)) vertices, le-ltb e (length (rim_edges_of ws)) edges)

-- where the entities show no reason against it, the book is a sheet
pub is-sheet : (ws : List ℕ) → Flat ws → 0 ∷ [] ≡ by_entities ws → Sheet ws
unfolding first_broken by_entities
is-sheet ws f h = go _ _ _ (any_of (unused ws) (up_to (count ws 0))) (any_of (branched ws) (up_to (count ws 1))) (any_of (unmatched ws) (up_to (count ws 2))) refl refl refl h
  where
    zero-is-not : (xs : List ℕ) → 0 ∷ [] ≡ 28 ∷ xs → ⊥
    zero-is-not xs q = let e : ◌≡◌ {A = ℕ} 0 28 = ap (λ (l : List ℕ). get_or l 0 0) q in omega arith

    go : (p q r : List ℕ) (x y z : Bool) → any_of (unused ws) (up_to (count ws 0)) ≡ x → any_of (branched ws) (up_to (count ws 1)) ≡ y → any_of (unmatched ws) (up_to (count ws 2)) ≡ z
        → 0 ∷ [] ≡ cond x (28 ∷ p) (cond y (28 ∷ q) (cond z (28 ∷ r) (0 ∷ []))) → Sheet ws
    go p q r true y z i j k e = absurd (zero-is-not p e)
    go p q r false true z i j k e = absurd (zero-is-not q e)
    go p q r false false true i j k e = absurd (zero-is-not r e)
    go p q r false false false i j k e = record { flat = f; used = i; plain = j; matched = k }

-- ---- what comes with the answer
module _ (ws xs bs vs es : List ℕ) where
  abbrev answer : List ℕ
  answer = sheet_answer ws (length xs) (length bs) (length vs) (length es)

  abbrev number : ℕ
  number = sheet_number ws (length xs) (length bs) (length vs) (length es)

  module _ (n : ℕ) (more : List ℕ) (h : n ∷ more ≡ answer) where
    pub number_is : number ≡ n
    unfolding sheet_number
    number_is = ap (λ (l : List ℕ). get_or l 0 0) (sym h)

    -- with any number but 11 no place comes
    pub no_place : eqb n 11 ≡ false → none ≡ told number (broken_at ws)
    unfolding told
    no_place z = rw (number_is, z)

    -- a refusal gives nothing and leaves every list as it was
    pub left_alone : eqb n 0 ≡ false
        → record {
          given : [] ≡ sheet_given ws (length xs) (length bs) (length vs) (length es);
          across : xs ≡ sheet_across ws xs bs vs es;
          bytes : bs ≡ sheet_bytes ws xs bs vs es;
          vertices : vs ≡ sheet_vertices ws xs bs vs es;
          edges : es ≡ sheet_edges ws xs bs vs es;
        }
    unfolding sheet_given sheet_for sheet_across sheet_bytes sheet_vertices sheet_edges at_front
    left_alone z = rw (number_is, z) (record { given = refl; across = refl; bytes = refl; vertices = refl; edges = refl })

    -- all that the contract says of a refusal that tells no place
    pub refused : eqb n 0 ≡ false → eqb n 11 ≡ false
        → record {
          answer : n ∷ more ≡ answer;
          place : none ≡ told number (broken_at ws);
          given : [] ≡ sheet_given ws (length xs) (length bs) (length vs) (length es);
          across : xs ≡ sheet_across ws xs bs vs es;
          bytes : bs ≡ sheet_bytes ws xs bs vs es;
          vertices : vs ≡ sheet_vertices ws xs bs vs es;
          edges : es ≡ sheet_edges ws xs bs vs es;
        }
    refused z w =
        let l = left_alone z in
        record { answer = h; place = no_place w; given = l.given; across = l.across; bytes = l.bytes; vertices = l.vertices; edges = l.edges }

  -- what an accepted call gives, and what the lists hold then
  pub given : 0 ∷ [] ≡ answer → length xs ≡ length (across ws)
      → record {
        given : (rim_length_of ws ∷ length (rim_vertices_of ws) ∷ length (rim_edges_of ws) ∷ []) ≡ sheet_given ws (length xs) (length bs) (length vs) (length es);
        across : across ws ≡ sheet_across ws xs bs vs es;
        bytes : rim_file ws ++ drop (rim_length_of ws) bs ≡ sheet_bytes ws xs bs vs es;
        vertices : rim_vertices_of ws ++ drop (length (rim_vertices_of ws)) vs ≡ sheet_vertices ws xs bs vs es;
        edges : rim_edges_of ws ++ drop (length (rim_edges_of ws)) es ≡ sheet_edges ws xs bs vs es;
      }
  unfolding sheet_given sheet_for sheet_across sheet_bytes sheet_vertices sheet_edges at_front rim_length_of
  given h l =
      rw (number_is 0 [] h) (record { given = refl; across = sym (rw (← l, drop-length xs) (append-nil (across ws))); bytes = refl; vertices = refl; edges = refl })
