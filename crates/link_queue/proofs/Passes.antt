-- What passes know of a link, one after the other.
use Rattle.std.proofs.Common.{◌≡◌, ◌≢◌, ℕ, zero, suc, true, false, true≢false, List, [], ◌∷◌, ◌++◌, length, set}
use Rattle.std.proofs.Common.{sym, refl, ap, ◌∙◌, subst, inl, inr, ◌⊎◌, ⊎_elim}
use mathlib.Core.Option.{some, some-injective, some-ne-none}
use lib.ListN.{get_elem?}
use Rattle.crossbeam_queue.proofs.Lists.{at_set}
use Rattle.link_queue.specs.declared.rule.PassView.{PassView}
use Rattle.link_queue.specs.Rule.{LinkFacts, IsSender, IsTaker, Knows, AllKnow}

at_snoc : (views : List PassView) (last v : PassView) (pass : ℕ) → get_elem? (views ++ last ∷ []) pass ≡ some v
    → (get_elem? views pass ≡ some v) ⊎ ((pass ≡ length views) × (last ≡ v))
at_snoc [] last v zero at = inr (refl, some-injective last v at)
at_snoc [] last v (suc pass) at = absurd (some-ne-none v (sym at))
at_snoc (x ∷ views) last v zero at = inl at
at_snoc (x ∷ views) last v (suc pass) at =
    ⊎_elim (λ h. inl h) (λ h. inr (ap suc h.0, h.1)) (at_snoc views last v pass at)

pub as_other : (f : LinkFacts) (pass other : ℕ) (v w : PassView) → pass ≡ other → w ≡ v → Knows f other w
    → Knows f pass v
as_other f pass other v w here is known =
    subst (λ (y : ℕ × PassView). Knows f y.0 y.1) (λ i. (sym here i, is i)) known

pub none_knows : (f : LinkFacts) → AllKnow f []
none_knows f pass v at = absurd (some-ne-none v (sym at))

-- one view is set
pub set_knows : (f : LinkFacts) (views : List PassView) (pass : ℕ) (w : PassView) → Knows f pass w
    → ((other : ℕ) (v : PassView) → other ≢ pass → get_elem? views other ≡ some v → Knows f other v)
    → AllKnow f (set views pass w)
set_knows f views pass w mine others other v at =
    ⊎_elim (λ (h : (other ≡ pass) × (w ≡ v)). as_other f other pass v w h.0 h.1 mine)
    (λ (h : (other ≢ pass) × (get_elem? views other ≡ some v)). others other v h.0 h.1)
    (at_set views pass other w v at)

-- one more pass
pub snoc_knows : (f : LinkFacts) (views : List PassView) (w : PassView) → AllKnow f views → Knows f (length views) w
    → AllKnow f (views ++ w ∷ [])
snoc_knows f views w known mine pass v at =
    ⊎_elim (λ (h : get_elem? views pass ≡ some v). known pass v h)
    (λ (h : (pass ≡ length views) × (w ≡ v)). as_other f pass (length views) v w h.0 h.1 mine)
    (at_snoc views w v pass at)

pub never : false ≢ true
never h = true≢false (sym h)

-- a pass that may do nothing needs to know nothing
pub knows_nothing : (f : LinkFacts) (pass : ℕ) (v : PassView) → v.sends ≢ true → v.takes ≢ true → Knows f pass v
knows_nothing f pass v sends takes =
    record { sends = λ may. absurd (sends may); takes = λ may. absurd (takes may) }

pub knows_sent : (f : LinkFacts) (pass : ℕ) (v : PassView) → v.takes ≢ true → IsSender f pass v → Knows f pass v
knows_sent f pass v takes known = record { sends = λ _. known; takes = λ may. absurd (takes may) }

pub knows_taken : (f : LinkFacts) (pass : ℕ) (v : PassView) → v.sends ≢ true → IsTaker f pass v → Knows f pass v
knows_taken f pass v sends known = record { sends = λ may. absurd (sends may); takes = λ _. known }

pub knows_both : (f : LinkFacts) (pass : ℕ) (v : PassView) → IsSender f pass v → IsTaker f pass v → Knows f pass v
knows_both f pass v sender taker = record { sends = λ _. sender; takes = λ _. taker }

-- who isn't the sender doesn't send, and who isn't the taker doesn't take
pub not_sender : (f : LinkFacts) (pass other : ℕ) (v : PassView) → pass ≡ f.sender → other ≢ pass → Knows f other v
    → v.sends ≢ true
not_sender f pass other v is apart known may = apart ((known.sends may).0 ∙ sym is)

pub not_taker : (f : LinkFacts) (pass other : ℕ) (v : PassView) → pass ≡ f.taker → other ≢ pass → Knows f other v
    → v.takes ≢ true
not_taker f pass other v is apart known may = apart ((known.takes may).0 ∙ sym is)
