-- Which stores are let in, and the volume that opening gives.
use Rattle.std.proofs.Common.{◌≡◌, Bool, true, false, cond, not, ltb, ◌↔◌, List, length, get_or, Some, None, Ok, Err, Option, Result, MatchResult, sym, refl, ap, ◌∙◌, subst, ap₂}
use Rattle.model.specs.declared.types.Fault.{Fault}
use Rattle.model.specs.declared.types.Refusal.{Refusal}
use Rattle.model.specs.declared.types.Refusal.TheVariants.{Small as small, Unsound as unsound, Dead as dead}
use Rattle.model.specs.Image.{Image, whole}
use Rattle.model.specs.Meaning.{Carries}
use Rattle.model.specs.Tree.{is_some}
use Rattle.model.proofs.Meaning.{let_in}
use Rattle.model.specs.Answers.{answer, inspect_answer}
use Rattle.model.specs.Tables.{Tables, load, alive, sound_by, sound}
use Rattle.model.specs.Volume.{Volume, format_refusal, inspection, loaded_refusal, kept, opened, Kept}
use Rattle.model.proofs.Consistent.{sound_alike}
use Rattle.tables.specs.Views.{view}
use Rattle.tables.specs.declared.consistent.Consistent.{Consistent}
use Rattle.volume.specs.Blank.{Tells}

-- the tables of a store that is let in, or the refusal of its inspection
abbrev pub Admits : Image → Result Consistent Refusal → Type 0
Admits i r = MatchResult r (λ (k : Consistent). (inspection i ≡ None) × (load i ≡ Ok (view k.tables))) (λ e. inspection i ≡ Some e)

-- what refuses a format refuses an inspection
pub refused_alike : (i : Image) (e : Refusal) → format_refusal i ≡ Some e → inspection i ≡ Some e
refused_alike i e h = go (ltb (length i) 260) (load i) h
  where
    go : (b : Bool) (l : Result Tables Fault) → cond b (Some small) (elim l as (λ _. Option Refusal) [ Err f ↦ Some (dead f) | Ok t ↦ None ]) ≡ Some e → cond b (Some small) (loaded_refusal i l) ≡ Some e
    go true l h = h
    go false (Err f) h = h
    go false (Ok t) h = absurd cc

-- where format is not refused, soundness decides
pub judged : (i : Image) (t : Tables) (b : Bool) → format_refusal i ≡ None → load i ≡ Ok t → sound i t ≡ b → inspection i ≡ cond b None (Some unsound)
judged i t b h e s = go (ltb (length i) 260) refl h
  where
    go : (c : Bool) → ltb (length i) 260 ≡ c → cond c (Some small) (elim (load i) as (λ _. Option Refusal) [ Err f ↦ Some (dead f) | Ok t ↦ None ]) ≡ None → inspection i ≡ cond b None (Some unsound)
    go true q h = absurd cc
    go false q h = ap₂ (λ (c : Bool) (l : Result Tables Fault). cond c (Some small) (loaded_refusal i l)) q e ∙ ap (λ (c : Bool). cond c None (Some unsound)) s

-- an array that tells which data sectors are dead decides soundness as the image does
pub told-sound : (ds : List Bool) (i : Image) → Tells ds i → (t : Tables) → sound i t ≡ sound_by (λ s. not (get_or ds s true)) t
told-sound ds i tells t = sound_alike (alive i) (λ s. not (get_or ds s true)) (λ s d. sym (ap not (tells s d) ∙ twice (alive i s))) t
  where
    twice : (b : Bool) → not (not b) ≡ b
    twice true = refl
    twice false = refl

let_in_sound : (i : Image) (t : Tables) → inspection i ≡ None → load i ≡ Ok t → sound i t ≡ true
let_in_sound i t h e = go (ltb (length i) 260) (load i) e h
  where
    sure : (b : Bool) → cond b None (Some unsound) ≡ None → b ≡ true
    sure true h = refl
    sure false h = absurd cc

    go : (b : Bool) (l : Result Tables Fault) → l ≡ Ok t → cond b (Some small) (loaded_refusal i l) ≡ None → sound i t ≡ true
    go true l q h = absurd cc
    go false (Err f) q h = absurd cc
    go false (Ok u) q h = let same : u ≡ t = cc in subst (λ (x : Tables). sound i x ≡ true) same (sure (sound i u) h)

-- the volume that opening gives
abbrev pub on : Option Tables → Image → Volume
on o i = record { tables = o; image = i }

pub opened_is : (i : Image) (t : Tables) → inspection i ≡ None → load i ≡ Ok t → on (Some t) i ≡ opened i
opened_is i t h e = ap₂ (λ (o : Option Refusal) (l : Result Tables Fault). on (kept o l) i) (sym h) (sym e)

pub shut_is : (i : Image) (r : Refusal) → inspection i ≡ Some r → on None i ≡ opened i
shut_is i r h = ap (λ (o : Option Refusal). on (kept o (load i)) i) (sym h)

pub kept_is : (i : Image) (t : Tables) → inspection i ≡ None → load i ≡ Ok t → Kept (on (Some t) i)
kept_is i t h e = (e, let_in_sound i t h e)

pub accepted : (i : Image) → inspection i ≡ None → Ok tt ≡ inspect_answer i
accepted i h = sym (ap (λ (o : Option Refusal). answer o tt) h)

pub turned : (i : Image) (e : Refusal) (r : Result (Unit {0}) Refusal) → r ≡ Err e → inspection i ≡ Some e → r ≡ inspect_answer i
turned i e r q h = q ∙ sym (ap (λ (o : Option Refusal). answer o tt) h)

-- exactly the stores that carry sound tables -----------------------------------------------------------------

none_or : (o : Option Refusal) → ◌≡◌ {A = Result (Unit {0}) Refusal} (answer o tt) (Ok tt) → o ≡ None
none_or None h = refl
none_or (Some r) h = absurd cc

pub exactly_inspected : (i : Image) → whole i ≡ true → (r : Result (Unit {0}) Refusal) → r ≡ inspect_answer i → (r ≡ Ok tt) ↔ Carries i
exactly_inspected i w r e = (λ h. (let_in i w).0 (none_or (inspection i) (sym e ∙ h)), λ c. e ∙ ap (λ (o : Option Refusal). answer o tt) ((let_in i w).1 c))

some_kept : (o : Option Refusal) (l : Result Tables Fault) → is_some (kept o l) ≡ true → o ≡ None
some_kept None l h = refl
some_kept (Some r) l h = absurd cc

pub exactly_opened : (i : Image) → whole i ≡ true → (v : Volume) → v ≡ opened i → (is_some v.tables ≡ true) ↔ Carries i
exactly_opened i w v e = (
  λ h. (let_in i w).0 (some_kept (inspection i) (load i) (sym (ap (λ (x : Volume). is_some x.tables) e) ∙ h)),
  λ c. ap (λ (x : Volume). is_some x.tables) e ∙ ap₂ (λ (o : Option Refusal) (l : Result Tables Fault). is_some (kept o l)) ((let_in i w).1 c) c.held,
)
