-- Writes one after another: each step, the first fault, and the end.
use Rattle.std.proofs.Common.{◌≡◌, ℕ, ◌+◌, ◌*◌, ◌<◌, ◌≤◌, List, [], ◌∷◌, ◌++◌, map, length, get_or, take, drop, Some, None, Ok, Err, Option, Result, sym, refl, ap, ◌∙◌, ap₂, arith}
use Rattle.std.proofs.lemmas.List.{at_drop_more, at_drop_all, length-drop}
use Rattle.model.specs.Volume.{data_writes}
use Rattle.model.specs.Image.{Image, Write, Written, writes, look, access, put, stored, done_or_fault, go_on}
use Rattle.model.specs.declared.types.Fault.{Fault}
use Rattle.model.specs.declared.types.Refusal.{Refusal}
use Rattle.model.specs.declared.types.Refusal.TheVariants.{Dead as dead}
use Rattle.volume.specs.Writing.{Wrote, unless_fault}

abbrev faulted : Image → Fault → Written
faulted i f = record { image = i; fault = Some f }

pub step_ok : (w : Write) (ws : List Write) (i : Image) → access i w.at ≡ Ok tt → writes (w ∷ ws) i ≡ writes ws (put i w.at w.new)
step_ok w ws i h = go (look i w.at) h
  where
    go : (l : Result (List ℕ) Fault) → done_or_fault l ≡ Ok tt → go_on l (writes ws (put i w.at w.new)) i ≡ writes ws (put i w.at w.new)
    go (Ok b) h = refl
    go (Err f) h = absurd cc

pub step-fault : (w : Write) (ws : List Write) (i : Image) (f : Fault) → access i w.at ≡ Err f → writes (w ∷ ws) i ≡ faulted i f
step-fault w ws i f h = go (look i w.at) h
  where
    go : (l : Result (List ℕ) Fault) → done_or_fault l ≡ Err f → go_on l (writes ws (put i w.at w.new)) i ≡ faulted i f
    go (Ok b) h = absurd cc
    go (Err g) h = let same : g ≡ f = cc in ap (faulted i) same

pub put_refused : (i : Image) (s : ℕ) (b : List ℕ) (f : Fault) → access i s ≡ Err f → put i s b ≡ i
put_refused i s b f h = go (look i s) h
  where
    go : (l : Result (List ℕ) Fault) → done_or_fault l ≡ Err f → stored l i s b ≡ i
    go (Ok c) h = absurd cc
    go (Err g) h = refl

-- the writes that are left, from the image at hand, lead where all of them led from the first
abbrev pub GoesOn : Image → List Write → Image → List Write → Type 0
GoesOn i ws j vs = writes vs j ≡ writes ws i

pub ended : (i : Image) (ws : List Write) (j : Image) → GoesOn i ws j [] → Wrote i ws (Ok tt) j
ended i ws j h = record { answer = ap (λ (w : Written). unless_fault w.fault) h; image = ap (λ (w : Written). w.image) h }

pub broken : (i : Image) (ws : List Write) (j k : Image) (w : Write) (vs : List Write) (f : Fault) (r : Result (Unit {0}) Refusal) → GoesOn i ws j (w ∷ vs) → access j w.at ≡ Err f → k ≡ put j w.at w.new → r ≡ Err (dead f) → Wrote i ws r k
broken i ws j k w vs f r h a p e =
    let came = sym h ∙ step-fault w vs j f a in
    record { answer = e ∙ sym (ap (λ (x : Written). unless_fault x.fault) came); image = p ∙ put_refused j w.at w.new f a ∙ sym (ap (λ (x : Written). x.image) came) }

-- a list of places, each with its write
module _ {A : Type 0} (write : A → Write) where
  pub more : (i : Image) (ws : List Write) (xs : List A) (k : ℕ) (x : A) (j n : Image) → k < length xs → GoesOn i ws j (map write (drop k xs)) → access j (write (get_or xs k x)).at ≡ Ok tt → n ≡ put j (write (get_or xs k x)).at (write (get_or xs k x)).new → GoesOn i ws n (map write (drop (k + 1) xs))
  more i ws xs k x j n l h a p =
      ap (writes (map write (drop (k + 1) xs))) p
      ∙ sym (step_ok (write (get_or xs k x)) (map write (drop (k + 1) xs)) j a)
      ∙ sym (at_drop_more (λ (ys : List A). writes (map write ys) j) xs k x l)
      ∙ h

  pub here : (i : Image) (ws : List Write) (xs : List A) (k : ℕ) (x : A) (j : Image) → k < length xs → GoesOn i ws j (map write (drop k xs)) → GoesOn i ws j (write (get_or xs k x) ∷ map write (drop (k + 1) xs))
  here i ws xs k x j l h = sym (at_drop_more (λ (ys : List A). writes (map write ys) j) xs k x l) ∙ h

  pub over : (i : Image) (ws : List Write) (xs : List A) (k : ℕ) (j : Image) → length xs ≤ k → GoesOn i ws j (map write (drop k xs)) → Wrote i ws (Ok tt) j
  over i ws xs k j l h = ended i ws j (sym (at_drop_all (λ (ys : List A). writes (map write ys) j) xs k l) ∙ h)

-- a file's contents, sector by sector ------------------------------------------------------------------------

abbrev pub Left : List ℕ → List ℕ → Type 0
Left ss w = length w ≡ 512 * length ss

pub data_more : (i : Image) (ws : List Write) (ss : List ℕ) (k : ℕ) (w : List ℕ) (j n : Image) (s : ℕ) (b v : List ℕ) → k < length ss → GoesOn i ws j (data_writes (drop k ss) w) → s ≡ get_or ss k 0 → b ≡ take 512 w → v ≡ drop 512 w → access j s ≡ Ok tt → n ≡ put j s b → GoesOn i ws n (data_writes (drop (k + 1) ss) v)
data_more i ws ss k w j n s b v l h e f g a p =
    ap₂ (λ (x : Image) (y : List ℕ). writes (data_writes (drop (k + 1) ss) y) x) (p ∙ ap₂ (put j) e f) g
    ∙ sym (step_ok (record { at = get_or ss k 0; new = take 512 w }) (data_writes (drop (k + 1) ss) (drop 512 w)) j (ap (access j) (sym e) ∙ a))
    ∙ sym (at_drop_more (λ (xs : List ℕ). writes (data_writes xs w) j) ss k 0 l)
    ∙ h

pub data_left : (ss : List ℕ) (k : ℕ) (w v : List ℕ) → k < length ss → Left (drop k ss) w → v ≡ drop 512 w → Left (drop (k + 1) ss) v
data_left ss k w v l h g =
    let a = length-drop k ss in
    let b = length-drop (k + 1) ss in
    let c = ap length g ∙ length-drop 512 w in
    omega arith

pub data_broken : (i : Image) (ws : List Write) (ss : List ℕ) (k : ℕ) (w : List ℕ) (j n : Image) (s : ℕ) (b : List ℕ) (f : Fault) (r : Result (Unit {0}) Refusal) → k < length ss → GoesOn i ws j (data_writes (drop k ss) w) → s ≡ get_or ss k 0 → b ≡ take 512 w → access j s ≡ Err f → n ≡ put j s b → r ≡ Err (dead f) → Wrote i ws r n
data_broken i ws ss k w j n s b f r l h e g a p q =
    broken i ws j n (record { at = get_or ss k 0; new = take 512 w }) (data_writes (drop (k + 1) ss) (drop 512 w)) f r (sym (at_drop_more (λ (xs : List ℕ). writes (data_writes xs w) j) ss k 0 l) ∙ h) (ap (access j) (sym e) ∙ a) (p ∙ ap₂ (put j) e g) q

pub data_over : (i : Image) (ws : List Write) (ss : List ℕ) (k : ℕ) (w : List ℕ) (j : Image) → length ss ≤ k → GoesOn i ws j (data_writes (drop k ss) w) → Wrote i ws (Ok tt) j
data_over i ws ss k w j l h = ended i ws j (sym (at_drop_all (λ (xs : List ℕ). writes (data_writes xs w) j) ss k l) ∙ h)

-- the contents do not end before the row does
pub data_enough : (ss : List ℕ) (k : ℕ) (w : List ℕ) → k < length ss → Left (drop k ss) w → length w < 512 → ⊥
data_enough ss k w l h s = let a = length-drop k ss in omega arith

-- some writes, and then others -----------------------------------------------------------------------------

went_on : (vs ws : List Write) (i : Image) → (writes vs i).fault ≡ None → writes (vs ++ ws) i ≡ writes ws (writes vs i).image
went_on [] ws i h = refl
went_on (v ∷ vs) ws i h = go (look i v.at) h (went_on vs ws (put i v.at v.new))
  where
    go : (l : Result (List ℕ) Fault) → (go_on l (writes vs (put i v.at v.new)) i).fault ≡ None → ((writes vs (put i v.at v.new)).fault ≡ None → writes (vs ++ ws) (put i v.at v.new) ≡ writes ws (writes vs (put i v.at v.new)).image) → go_on l (writes (vs ++ ws) (put i v.at v.new)) i ≡ writes ws (go_on l (writes vs (put i v.at v.new)) i).image
    go (Ok b) h ih = ih h
    go (Err f) h ih = absurd cc

stopped : (vs ws : List Write) (i : Image) (f : Fault) → (writes vs i).fault ≡ Some f → writes (vs ++ ws) i ≡ writes vs i
stopped [] ws i f h = absurd cc
stopped (v ∷ vs) ws i f h = go (look i v.at) h (stopped vs ws (put i v.at v.new) f)
  where
    go : (l : Result (List ℕ) Fault) → (go_on l (writes vs (put i v.at v.new)) i).fault ≡ Some f → ((writes vs (put i v.at v.new)).fault ≡ Some f → writes (vs ++ ws) (put i v.at v.new) ≡ writes vs (put i v.at v.new)) → go_on l (writes (vs ++ ws) (put i v.at v.new)) i ≡ go_on l (writes vs (put i v.at v.new)) i
    go (Ok b) h ih = ih h
    go (Err g) h ih = refl

-- whether a fault was met, by what was answered
pub fault_of : (o : Option Fault) (r : Result (Unit {0}) Refusal) → r ≡ unless_fault o → (r ≡ Ok tt → o ≡ None) × ((e : Refusal) → r ≡ Err e → (f : Fault) × (o ≡ Some f) × (e ≡ dead f))
fault_of None r h = (λ q. refl, λ e q. absurd cc)
fault_of (Some f) r h = (λ q. absurd cc, λ e q. (f, refl, let same : e ≡ dead f = cc in same))

pub then_wrote : (i : Image) (vs ws : List Write) (q r : Result (Unit {0}) Refusal) (j k : Image) → Wrote i vs q j → q ≡ Ok tt → Wrote j ws r k → Wrote i (vs ++ ws) r k
then_wrote i vs ws q r j k a ok b =
    let on = went_on vs ws i ((fault_of (writes vs i).fault q a.answer).0 ok) ∙ ap (writes ws) (sym a.image) in
    record { answer = b.answer ∙ sym (ap (λ (x : Written). unless_fault x.fault) on); image = b.image ∙ sym (ap (λ (x : Written). x.image) on) }

pub never_wrote : (i : Image) (vs ws : List Write) (q : Result (Unit {0}) Refusal) (j : Image) (e : Refusal) → Wrote i vs q j → q ≡ Err e → Wrote i (vs ++ ws) q j
never_wrote i vs ws q j e a err =
    let f = (fault_of (writes vs i).fault q a.answer).1 e err in
    let same = stopped vs ws i f.0 f.1 in
    record { answer = a.answer ∙ sym (ap (λ (x : Written). unless_fault x.fault) same); image = a.image ∙ sym (ap (λ (x : Written). x.image) same) }
