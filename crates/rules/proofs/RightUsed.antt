-- A right book with other free words, and its used words alone: right too.
use mathlib.Core.Path.{◌≡◌, sym, ap, ◌∙◌}
use mathlib.Core.List.{List, [], ◌++◌, append_assoc, append-nil}
use Prim.Native.Nat.{ℕ, ◌+◌, ◌-◌, ◌<◌}
use native.Mathlib.Omega.{arith}
use lib.ListN.{length, get_or, take, replicate, length-append, replicate-append-replicate}
use lib.Seq.{get_or-take, take_at}
use Rattle.rules.specs.Lists.{filled}
use Rattle.rules.specs.Book.{dim, held, rows_of, relations, Right}
use Rattle.rules.proofs.FrameRule.{framed}
use Rattle.rules.proofs.Assembled.{assembled, assembled-is}
use Rattle.rules.proofs.RightBook.{right-assembled}
use Rattle.rules.proofs.Sound.{Sound, right-sound, sound-frame, sound-rows}

-- a right book with other free words
module _ (ws : List ℕ) (r : Right ws) where
  abbrev pub parts : Sound (take 5 ws) (rows_of ws)
  parts = right-sound ws r.frame r.rows

  pub whole : ws ≡ assembled (take 5 ws) (rows_of ws) (replicate (length ws - get_or ws 4 0) 0)
  whole = right-assembled ws (framed ws r.frame) r.rows

  with-zeros : (z : ℕ) → Right (assembled (take 5 ws) (rows_of ws) (replicate z 0))
  with-zeros z = record { frame = sound-frame (take 5 ws) (rows_of ws) parts z; rows = sound-rows (take 5 ws) (rows_of ws) parts z }

  pub filled-right : (n : ℕ) → Right (filled n ws)
  filled-right n = rw longer (with-zeros (length ws - get_or ws 4 0 + (n - length ws)))
    where
      longer : filled n ws ≡ assembled (take 5 ws) (rows_of ws) (replicate (length ws - get_or ws 4 0 + (n - length ws)) 0)
      longer =
          unfold filled in ap (λ (w : List ℕ). w ++ replicate (n - length ws) 0) (whole ∙ assembled-is (take 5 ws) (rows_of ws) _)
          ∙ rw (append_assoc, append_assoc, replicate-append-replicate {A = ℕ} (length ws - get_or ws 4 0) (n - length ws) 0) (sym (assembled-is (take 5 ws) (rows_of ws) _))

  pub used-part : take (get_or ws 4 0) ws ≡ assembled (take 5 ws) (rows_of ws) []
  used-part =
      let h = take 5 ws in
      let b = relations (held h) (rows_of ws) 16 in
      let z : List ℕ = replicate (length ws - get_or ws 4 0) 0 in
      let w : ws ≡ (h ++ b) ++ z = whole ∙ assembled-is h (rows_of ws) z ∙ sym (append_assoc h b z) in
      let u : length (h ++ b) ≡ get_or ws 4 0 = length-append h b ∙ omega (arith, parts.five, parts.used, get_or-take 5 ws 4 0 (omega arith)) in
      ap (take (get_or ws 4 0)) w ∙ take_at (h ++ b) z (get_or ws 4 0) u ∙ sym (assembled-is h (rows_of ws) [] ∙ ap (λ (x : List ℕ). h ++ x) (append-nil b))

  pub bare : Right (take (get_or ws 4 0) ws)
  bare = rw used-part (with-zeros 0)

  pub bare-dim : dim (take (get_or ws 4 0) ws) ≡ dim ws
  unfolding dim
  bare-dim =
      let p : 0 < get_or ws 4 0 = omega (arith, parts.used, get_or-take 5 ws 4 0 (omega arith)) in
      rw (get_or-take (get_or ws 4 0) ws 0 0 p)
