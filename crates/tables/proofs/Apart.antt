-- Entries that share a place, in two lists.
use Rattle.std.proofs.Common.{◌≡◌, Bool, true, false, not, ◌&&◌, List, [], ◌∷◌, ◌++◌, refl, ◌∙◌, ap₂}
use Rattle.model.specs.Tables.{Entry, all, same_place, unshared}
use Rattle.tables.proofs.Bools.{all_join}

-- the entry shares its place with none of the others
abbrev pub apart : List Entry → Entry → Bool
apart fs e = all (λ f. not (same_place e f)) fs

-- two lists, one after the other
pub unshared_join : (ds fs : List Entry) → unshared (ds ++ fs) ≡ ((unshared ds && unshared fs) && all (apart fs) ds)
unshared_join [] fs = go (unshared fs)
  where
    go : (b : Bool) → b ≡ (b && true)
    go true = refl
    go false = refl
unshared_join (d ∷ ds) fs = ap₂ (λ a b. a && b) (all_join (λ f. not (same_place d f)) ds fs) (unshared_join ds fs) ∙ go (apart ds d) (apart fs d) (unshared ds) (unshared fs) (all (apart fs) ds)
  where
    go : (a b u v w : Bool) → ((a && b) && ((u && v) && w)) ≡ (((a && u) && v) && (b && w))
    go false b u v w = refl
    go true false false v w = refl
    go true false true false w = refl
    go true false true true w = refl
    go true true u v w = refl
