-- A window that fits serves each of its sectors by a sector below of its own.
use Rattle.std.specs.Prelude.{◌≡◌, ℕ, ◌+◌, ◌≤◌, Bool, true, nat_le}
use Rattle.std.proofs.Common.{arith}
use Rattle.std.proofs.lemmas.Bool.{leb-true}
use Rattle.store.specs.Layered.{Serves}

-- first and count as the window keeps them
module _ (a c : ℕ) where
  abbrev pub serve : ℕ → ℕ
  serve s = a + s

  abbrev pub fits : ℕ → Bool
  fits n = nat_le (a + c) n

  pub sound : (n : ℕ) → fits n ≡ true → Serves n c serve
  sound n h =
      let l : a + c ≤ n = leb-true (a + c) n h in
      record { room = omega arith; inside = λ s k. omega arith; apart = λ s t k m e. omega arith }
