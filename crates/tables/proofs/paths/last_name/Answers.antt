use Rattle.std.proofs.Common.{◌≡◌, ℕ, Bool, false, true, List, Some, None, Option, Bor, rules, ap, ◌∙◌}
use borrow.Author.Tests.{tests}
use Rattle.std.proofs.lemmas.Fn.{always_returns_same}
use Rattle.std.specs.Option.{MatchOption, unwrap_or}
use Rattle.model.specs.Book.{last}
use Rattle.model.specs.Names.{names}
use Rattle.tables.proofs.Cuts.{is_slash, last_is}
use Rattle.tables.proofs.paths.last_name.Goals as goal

-- `next` gives a part
some : (path : Bor (List ℕ)) (n : List ℕ) (o : Option (Bor (List ℕ))) (A : Type 0) (B : Bor (List ℕ) → Type 0) → (A → ⊥) → ((x : Bor (List ℕ)) → B x → x.now ≡ n) → MatchOption o A B → (unwrap_or o path).now ≡ n
some path n None A B f g h = absurd (f h)
some path n (Some x) A B f g h = g x h

none : (d : Bool) → d ≡ false → d ≡ true → ⊥
none d e f = absurd cc

pub returns : goal.returns
returns c =
    let rest = c.rsplit.result.parts.rest.now in
    let last_part = some c.args.path (last (names rest)) c.next.result _ _ (λ h. none c.rsplit.result.parts.done c.rsplit.ensures.done h.0) (λ x h. last_is rest c.next.new.self.parts.rest.now x.now c.next.new.self.parts.done h.1 (h.2 is_slash (always_returns_same _ _ _ (λ a r q k. search (rules, tests)))).1) c.next.ensures.steps in
    ap (λ b. b.now) c.unwrap_or.ensures ∙ last_part ∙ ap (λ p. last (names p)) c.rsplit.ensures.rest
