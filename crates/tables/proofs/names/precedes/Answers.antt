use Rattle.std.proofs.Common.{◌≡◌, ℕ, ltb, List, [], ◌∷◌, length, None, sym, inl, inr, ◌∙◌, arith}
use Rattle.std.specs.Slice.Iter.{iter_steps, iter_rest}
use Rattle.std.specs.Iterator.Adapters.{zip_steps, zip_first, zip_second}
use Rattle.std.specs.declared.iter.Zip.{Zip}
use Rattle.std.specs.declared.slice.Iter.{Iter}
use Rattle.std.proofs.lemmas.Bool.{le-ltb, lt-ltb}
use Rattle.model.specs.Names.{before}
use Rattle.tables.proofs.names.precedes.Goals as goal

-- one of the two names is at its end
ended : (s t : Zip (Iter ℕ) (Iter ℕ)) → zip_steps iter_steps iter_steps s None t → ltb (length (iter_rest (zip_first s))) (length (iter_rest (zip_second s))) ≡ before (iter_rest (zip_first s)) (iter_rest (zip_second s))
ended s t (inl h) = go (iter_rest (zip_first s)) (iter_rest (zip_second s)) h.1.0
  where
    go : (p q : List ℕ) → length p ≡ 0 → ltb (length p) (length q) ≡ before p q
    go [] [] e = le-ltb 0 0 (omega arith)
    go [] (y ∷ q) e = lt-ltb 0 (length (y ∷ q)) (omega arith)
    go (x ∷ p) q e = absurd (omega arith)
ended s t (inr h) = go (iter_rest (zip_first s)) (iter_rest (zip_second s)) h.1.0
  where
    go : (p q : List ℕ) → length q ≡ 0 → ltb (length p) (length q) ≡ before p q
    go p [] e = le-ltb (length p) 0 (omega arith)
    go p (y ∷ q) e = absurd (omega arith)

pub returns : goal.returns
returns c = c.loop-x.invariant.3 ∙ ended c.loop-x.x-iterator c.next.new.self c.in-None.ensures.steps ∙ sym c.loop-x.invariant.2
