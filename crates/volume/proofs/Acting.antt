-- What a call answers and leaves, by the way that it took: refused, stopped by a fault, or accepted.
use Rattle.std.proofs.Common.{◌≡◌, ℕ, ◌<◌, Bool, true, false, cond, ltb, List, [], length, get_or, Some, None, Ok, Err, Option, Result, sym, refl, ap, ◌∙◌, subst, ap₂, arith}
use Rattle.std.proofs.lemmas.Bool.{ltb-true}
use Rattle.model.specs.Answers.{answer, turned_away, refused_or_met, first_fault, sector_reads, over, unless, read_buffer}
use Rattle.model.specs.Image.{Image, dead, seen, look, past_end_at, whole, Write, writes, reads}
use Rattle.model.specs.Refusals.{Call, read, picked}
use Rattle.model.specs.Tables.{Tables}
use Rattle.model.specs.Volume.{checks, tables_after, sector_writes, settled, done, after, Kept, InStep}
use Rattle.model.specs.declared.types.Fault.{Fault}
use Rattle.model.specs.declared.types.Refusal.{Refusal}
use Rattle.model.proofs.Calls.{stays_ready}
use Rattle.model.proofs.Meaning.{load_shaped}
use Rattle.model.proofs.Ready.{Ready}
use Rattle.model.proofs.Tables.{sound_facts, facts_sound}
use Rattle.model.proofs.Tables.Loads.{load-holds}
use Rattle.std.specs.Option.{ForSome}
use Rattle.tables.specs.Views.{view}
use Rattle.tables.specs.declared.consistent.Consistent.{Consistent}
use Rattle.volume.specs.Acts.{Acts, Commits, Planned}
use Rattle.volume.specs.Views.{kept_view}
use Rattle.volume.specs.Writing.{Wrote, unless_fault}
use Rattle.volume.proofs.Admitting.{on}
use Rattle.volume.proofs.Writing.{fault_of}

-- a volume that is kept stays so ---------------------------------------------------------------------------

readable_inside : (i : Image) (s : ℕ) (b : List ℕ) → look i s ≡ Ok b → s < length i
readable_inside i s b h = go (ltb s (length i)) refl h
  where
    go : (c : Bool) → ltb s (length i) ≡ c → cond c (seen (get_or i s (dead 0 0))) (Err (past_end_at s)) ≡ Ok b → s < length i
    go true q h = ltb-true s (length i) q
    go false q h = absurd cc

pub ready : (i : Image) (t : Tables) → whole i ≡ true → Kept (on (Some t) i) → Ready i t
ready i t w k =
    let shaped = load_shaped i t w k.0 in
    let last = (load-holds i t k.0).rows_at in
    let inside = readable_inside i 0x103 last.0 last.1 in
    record { sectors = w; long = omega arith; loaded = k.0; shaped = shaped; facts = sound_facts i t shaped k.1 }

pub stays : (i : Image) (t : Tables) → whole i ≡ true → (c : Call) → Kept (on (Some t) i) → Kept (after (on (Some t) i) c)
stays i t w c k = go (picked (checks t i c)) refl
  where
    go : (o : Option Refusal) → picked (checks t i c) ≡ o → Kept (done o (on (Some t) i) t c)
    go (Some r) e = k
    go None e =
        let l = stays_ready i t (ready i t w k) c e in
        let left = writes (sector_writes t c (tables_after t c)) i in
        subst (λ (f : Option Fault). InStep (Some (settled f t (tables_after t c))) left.image) (sym l.unbroken) (l.ready.loaded, facts_sound left.image (tables_after t c) l.ready.shaped l.ready.facts)

-- the type's invariant after a call, from the one before it
abbrev pub Held : Option Consistent → Image → Type 0
Held o i = ForSome o (λ c. InStep (Some (view c.tables)) i)

pub held_is : (o : Option Consistent) (i : Image) → Held o i → Kept (on (kept_view o) i)
held_is None i h = tt
held_is (Some c) i h = h c refl

pub is_held : (o : Option Consistent) (i : Image) → Kept (on (kept_view o) i) → Held o i
is_held o i k = λ c e. subst (λ (x : Option Consistent). Kept (on (kept_view x) i)) e k

pub holds : {A : Type 0} (o u : Option Consistent) (i j : Image) (c : Call) (a r : Result A Refusal) → whole i ≡ true → Held o i → Acts (on (kept_view o) i) c a r (on (kept_view u) j) → Held u j
holds o u i j c a r w h acts = is_held u j (subst Kept (sym acts.after) (go (kept_view o) (held_is o i h)))
  where
    go : (x : Option Tables) → Kept (on x i) → Kept (after (on x i) c)
    go None k = tt
    go (Some t) k = stays i t w c k

-- what a call gives and leaves -----------------------------------------------------------------------------

module _ {A : Type 0} (i : Image) (o : Option Tables) (t : Tables) (is : o ≡ Some t) (c : Call) (a : A) where
  -- the first check that refuses
  pub refused : (e : Refusal) (r : Result A Refusal) → picked (checks t i c) ≡ Some e → r ≡ Err e → Acts (on o i) c (answer (turned_away (on o i) c) a) r (on o i)
  refused e r h q =
      subst (λ (x : Option Tables). Acts (on x i) c (answer (turned_away (on x i) c) a) r (on x i)) (sym is)
      (record {
        answer = q ∙ sym (ap (λ (x : Option Refusal). answer (refused_or_met x (first_fault (reads (sector_reads t c) i).fault (writes (sector_writes t c (tables_after t c)) i).fault)) a) h);
        after = sym (ap (λ (x : Option Refusal). done x (on (Some t) i) t c) h);
      })

  module _ (w : whole i ≡ true) (passed : picked (checks t i c) ≡ None) (quiet : sector_reads t c ≡ []) (q : Result (Unit {0}) Refusal) (j : Image) (wrote : Wrote i (sector_writes t c (tables_after t c)) q j) (r : Result A Refusal) where
    told : (f : Option Fault) → (writes (sector_writes t c (tables_after t c)) i).fault ≡ f → turned_away (on (Some t) i) c ≡ refused_or_met None f
    told f e = ap₂ (λ (x : Option Refusal) (y : List ℕ). refused_or_met x (first_fault (reads y i).fault (writes (sector_writes t c (tables_after t c)) i).fault)) passed quiet ∙ ap (refused_or_met None) e

    leaves : (f : Option Fault) → (writes (sector_writes t c (tables_after t c)) i).fault ≡ f → on (Some (settled f t (tables_after t c))) j ≡ after (on (Some t) i) c
    leaves f e = ap₂ (λ (x : Option Fault) (y : Image). on (Some (settled x t (tables_after t c))) y) (sym e) wrote.image ∙ sym (ap (λ (x : Option Refusal). done x (on (Some t) i) t c) passed)

    -- all is written, and the new tables are kept
    pub accepted : (u : Option Tables) → q ≡ Ok tt → r ≡ Ok a → u ≡ Some (tables_after t c) → Acts (on o i) c (answer (turned_away (on o i) c) a) r (on u j)
    accepted u ok h new =
        let none = (fault_of (writes (sector_writes t c (tables_after t c)) i).fault q wrote.answer).0 ok in
        let left = ap (λ (x : Option Tables). on x j) new ∙ leaves None none in
        subst (λ (x : Option Tables). Acts (on x i) c (answer (turned_away (on x i) c) a) r (on u j)) (sym is) (record { answer = h ∙ sym (ap (λ (x : Option Refusal). answer x a) (told None none)); after = left })

    -- a fault on the way: the tables stay
    pub faulted : (e : Refusal) → q ≡ Err e → r ≡ Err e → Acts (on o i) c (answer (turned_away (on o i) c) a) r (on o j)
    faulted e err h =
        let f = (fault_of (writes (sector_writes t c (tables_after t c)) i).fault q wrote.answer).1 e err in
        let left = leaves (Some f.0) f.1 in
        subst (λ (x : Option Tables). Acts (on x i) c (answer (turned_away (on x i) c) a) r (on x j)) (sym is) (record { answer = h ∙ ap Err f.2 ∙ sym (ap (λ (x : Option Refusal). answer x a) (told (Some f.0) f.1)); after = left })

-- the new tables were written, or a fault ended the writes
module _ {A : Type 0} (i : Image) (o : Option Consistent) (u : Tables) (ws : List Write) (a : A) (w : whole i ≡ true) (q : Result (Unit {0}) Refusal) (j : Image) (wrote : Wrote i ws q j) (r : Result A Refusal) where
  pub commits : q ≡ Ok tt → r ≡ Ok a → Commits (on (kept_view o) i) u ws a r (on (Some u) j)
  commits ok h = λ t c p. accepted i (kept_view o) t p.stands c a w p.passed p.quiet q j (subst (λ (x : List Write). Wrote i x q j) p.makes wrote) r (Some u) ok h (ap Some p.leads)

  pub breaks : (e : Refusal) → q ≡ Err e → r ≡ Err e → Commits (on (kept_view o) i) u ws a r (on (kept_view o) j)
  breaks e err h = λ t c p. faulted i (kept_view o) t p.stands c a w p.passed p.quiet q j (subst (λ (x : List Write). Wrote i x q j) p.makes wrote) r e err h

-- and the invariant stands, since such a call was planned
module _ (i : Image) (o : Option Consistent) (ws : List Write) (w : whole i ≡ true) (held : Held o i) (q : Result (Unit {0}) Refusal) (j : Image) (wrote : Wrote i ws q j) where
  pub commits_hold : (u : Consistent) → (t : Tables) × ((c : Call) × Planned (on (kept_view o) i) t c (view u.tables) ws) → q ≡ Ok tt → Held (Some u) j
  commits_hold u p ok = holds {A = Unit {0}} o (Some u) i j p.1.0 _ (Ok tt) w held (commits {A = Unit {0}} i o (view u.tables) ws tt w q j wrote (Ok tt) ok refl p.0 p.1.0 p.1.1)

  pub breaks_hold : (u : Tables) → (t : Tables) × ((c : Call) × Planned (on (kept_view o) i) t c u ws) → (e : Refusal) → q ≡ Err e → Held o j
  breaks_hold u p e err = holds {A = Unit {0}} o o i j p.1.0 _ (Err e) w held (breaks {A = Unit {0}} i o u ws tt w q j wrote (Err e) e err refl p.0 p.1.0 p.1.1)

-- a call that only reads sectors
module _ {A : Type 0} (i : Image) (o : Option Tables) (t : Tables) (is : o ≡ Some t) (c : Call) (a : A) (same : tables_after t c ≡ t) (none : sector_writes t c (tables_after t c) ≡ []) (passed : picked (checks t i c) ≡ None) (q : Result (Unit {0}) Refusal) (h : q ≡ unless_fault (reads (sector_reads t c) i).fault) (j : Image) (still : j ≡ i) (r : Result A Refusal) where
  met_by : (f : Option Fault) → (reads (sector_reads t c) i).fault ≡ f → turned_away (on (Some t) i) c ≡ refused_or_met None (first_fault f None)
  met_by f e = ap₂ (λ (x : Option Refusal) (y : List Write). refused_or_met x (first_fault (reads (sector_reads t c) i).fault (writes y i).fault)) passed none ∙ ap (λ (x : Option Fault). refused_or_met None (first_fault x None)) e

  stays_so : on (Some t) j ≡ after (on (Some t) i) c
  stays_so =
      ap (on (Some t)) still
      ∙ sym (ap₂ (λ (ws : List Write) (u : Tables). on (Some (settled (writes ws i).fault t u)) (writes ws i).image) none same)
      ∙ sym (ap (λ (x : Option Refusal). done x (on (Some t) i) t c) passed)

  acts : Result A Refusal → (r ≡ answer (turned_away (on (Some t) i) c) a) → Acts (on o i) c (answer (turned_away (on o i) c) a) r (on o j)
  acts x e = subst (λ (y : Option Tables). Acts (on y i) c (answer (turned_away (on y i) c) a) r (on y j)) (sym is) (record { answer = e; after = stays_so })

  pub looked : q ≡ Ok tt → r ≡ Ok a → Acts (on o i) c (answer (turned_away (on o i) c) a) r (on o j)
  looked ok e = acts r (e ∙ sym (ap (λ (x : Option Refusal). answer x a) (met_by None ((fault_of (reads (sector_reads t c) i).fault q h).0 ok))))

  pub unread : (e : Refusal) → q ≡ Err e → r ≡ Err e → Acts (on o i) c (answer (turned_away (on o i) c) a) r (on o j)
  unread e err k =
      let f = (fault_of (reads (sector_reads t c) i).fault q h).1 e err in
      acts r (k ∙ ap Err f.2 ∙ sym (ap (λ (x : Option Refusal). answer x a) (met_by (Some f.0) f.1)))

-- the buffer: what was read stands at its front
pub filled-buffer : (i : Image) (o : Option Tables) (t : Tables) → o ≡ Some t → (d : ℕ) (p b x : List ℕ) → picked (checks t i (read d p b)) ≡ None → x ≡ over (reads (sector_reads t (read d p b)) i).bytes b → x ≡ read_buffer (on o i) d p b
filled-buffer i o t is d p b x passed e =
    subst (λ (y : Option Tables). x ≡ read_buffer (on y i) d p b) (sym is)
    (e ∙ sym (ap (λ (z : Option Refusal). unless z b (over (reads (sector_reads t (read d p b)) i).bytes b)) passed))

pub left_buffer : (i : Image) (o : Option Tables) (t : Tables) → o ≡ Some t → (d : ℕ) (p b : List ℕ) (e : Refusal) → picked (checks t i (read d p b)) ≡ Some e → b ≡ read_buffer (on o i) d p b
left_buffer i o t is d p b e refuses =
    subst (λ (y : Option Tables). b ≡ read_buffer (on y i) d p b) (sym is)
    (sym (ap (λ (z : Option Refusal). unless z b (over (reads (sector_reads t (read d p b)) i).bytes b)) refuses))
