-- Tables that are sound for some dead sectors are so as far as they alone tell.
use Rattle.std.proofs.Common.{◌≡◌, ℕ, ◌<◌, ◌≤◌, Bool, true, false, cond, not, ◌⊎◌, List, [], map, length, get_or, Err, sym, refl, ap, ◌∙◌, subst, inl, inr}
use Rattle.std.proofs.lemmas.List.{get_or-map, get_or_past, length-map}
use Rattle.std.proofs.lemmas.Bool.{cases_lt, le-ltb}
use Rattle.model.specs.Image.{Image, Sector, bytes, dead, seen, past_end_at, is_ok}
use Rattle.model.specs.Tables.{Tables, alive, sound_by, consistent}
use Rattle.model.specs.Sound.{Shaped}
use Rattle.model.proofs.Consistent.{sound-consistent}
use Rattle.model.proofs.Store.Writes.{look_inside}

-- a store whose dead sectors are those that the array names
abbrev pub sector : Bool → Sector
sector b = cond b (dead 0 0) (bytes [])

abbrev pub sectors : List Bool → Image
sectors ds = map sector ds

pub alive-told : (ds : List Bool) (s : ℕ) → alive (sectors ds) s ≡ not (get_or ds s true)
alive-told ds s = go (cases_lt s (length ds))
  where
    one : (b : Bool) → is_ok (seen (sector b)) ≡ not b
    one true = refl
    one false = refl

    go : (s < length ds) ⊎ (length ds ≤ s) → alive (sectors ds) s ≡ not (get_or ds s true)
    go (inl l) = ap is_ok (look_inside (sectors ds) s (subst (λ n. s < n) (sym (length-map ds sector)) l)) ∙ ap (λ x. is_ok (seen x)) (get_or-map sector ds s true (dead 0 0) l) ∙ one (get_or ds s true)
    go (inr l) = ap (λ b. is_ok (cond b (seen (get_or (sectors ds) s (dead 0 0))) (Err (past_end_at s)))) (le-ltb s (length (sectors ds)) (subst (λ n. n ≤ s) (sym (length-map ds sector)) l)) ∙ ap not (sym (get_or_past ds s true l))

pub admitted : (ds : List Bool) (t : Tables) → Shaped t → sound_by (λ s. not (get_or ds s true)) t ≡ true → consistent t ≡ true
admitted ds t shaped h = sound-consistent (sectors ds) t shaped ((λ j. sound_by (λ s. alive-told ds s j) t) ∙ h)
