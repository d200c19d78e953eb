-- The mark that is due to a sector.
use Rattle.std.proofs.Common.{◌≡◌, ℕ, Bool, true, false, cond, not, eqb, ltb, List, get_or, refl, ap, ◌∙◌, arith}
use Rattle.std.proofs.lemmas.Bool.{ltb-false}
use Rattle.model.specs.Sizes.{sector_size, first_data, last_data, mark_free, mark_used, mark_dead}
use Rattle.model.specs.Tables.{Tables, each, live_places, member, mark_of, marks_right}
use Rattle.tables.specs.Rules.{told, alive_by, Claimed, due, marks_due}

pub due_is : (dead claimed : List Bool) (t : Tables) → Claimed t claimed → (s : ℕ) → due dead claimed s ≡ mark_of (alive_by dead) t s
due_is dead claimed t tells s = go (ltb s first_data) (ltb last_data s) refl
  where
    rest : (d : Bool) → cond d mark_dead (cond (member s (live_places t.files t.rows)) mark_used mark_free) ≡ cond (not (not d)) mark_dead (cond (member s (live_places t.files t.rows)) mark_used mark_free)
    rest true = refl
    rest false = refl

    go : (a b : Bool) → ltb last_data s ≡ b → cond a mark_used (cond b mark_free (cond (told dead s) mark_dead (cond (told claimed s) mark_used mark_free))) ≡ cond a mark_used (cond b mark_free (cond (not (not (told dead s))) mark_dead (cond (member s (live_places t.files t.rows)) mark_used mark_free)))
    go true b e = refl
    go false true e = refl
    go false false e = ap (λ m. cond (told dead s) mark_dead (cond m mark_used mark_free)) (tells s (let h = ltb-false last_data s e in omega arith)) ∙ rest (told dead s)

pub due_right : (dead claimed : List Bool) (t : Tables) → Claimed t claimed → marks_due dead claimed t ≡ marks_right (alive_by dead) t
due_right dead claimed t tells = λ j. each 0 sector_size (λ s. eqb (get_or t.marks s 1) (due_is dead claimed t tells s j))
