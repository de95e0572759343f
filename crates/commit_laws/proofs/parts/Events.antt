-- Where what a key does isn't of a transaction, it sends at most refusals of it, and lets none of it wait that didn't.
use Rattle.std.proofs.Common.{◌≡◌, ◌∙◌, Bool, true, false, List, [], ◌∷◌, refl, sym, subst}
use Rattle.std.proofs.lemmas.Bool.{true≢false}
use Rattle.std.specs.Prelude.{if◌then◌else◌, Option, None, Some}
use Rattle.run_theory.proofs.Pasts.{each_append}
use Rattle.run_theory.specs.Lists.{Each}
use Rattle.row_locks.specs.declared.mode.Lock.{Lock}
use Rattle.row_locks.specs.declared.mode.Lock.TheVariants.{Granted, Queued}
use Rattle.row_locks.specs.Rows.{RowLock, asked}
use Rattle.sig_core.specs.declared.member.TxId.{TxId}
use Rattle.sig_core.specs.Firsts.{drop_first, first}
use Rattle.sig_core.specs.Same.{same_tx}
use Rattle.lqh_block.specs.declared.request.Request.{Request}
use Rattle.lqh_block.specs.Work.{work_mode}
use Rattle.key_laws.specs.Replica.{Event, Replica, aborts, ages, asked_by, asks, commits, completes, expires, is_by}
use Rattle.key_laws.specs.Replica.{is_let_in, key_after, rests, served_by, serves}
use Rattle.key_laws.proofs.Waiting.{each-drop_first}
use Rattle.run_laws.proofs.tokens.Signals.{Token, asked_tokens, event_tokens, if_by, performed_token, served_tokens}
use Rattle.run_laws.proofs.tokens.Signals as token
use Rattle.run_laws.proofs.circle.OthersStay.{is_of, of_first}
use Rattle.commit_laws.proofs.records.KeyStays.{worker_of}

module _ (tx : TxId) where
  abbrev AreRefusals : List Token → Type 0
  AreRefusals = Each (λ (one : Token). one ≡ token.refuses)

  none_of : (v : TxId) (one : Token) → same_tx v tx ≡ false → AreRefusals (if_by tx v one)
  none_of v one off = subst (λ b. AreRefusals (if b then one ∷ [] else [])) (sym off) tt

  refusal_of : (v : TxId) → AreRefusals (if_by tx v token.refuses)
  refusal_of v = by (same_tx v tx)
    where
      by : (b : Bool) → AreRefusals (if b then token.refuses ∷ [] else [])
      by true = (refl, tt)
      by false = tt

  asked_aside : (r : Replica) (q : Request) (refused : Bool) (a : Lock) → same_tx q.tx tx ≡ false
      → AreRefusals (asked_tokens tx r q refused a)
  asked_aside r q refused Granted off = none_of q.tx (performed_token r.cell q refused) off
  asked_aside r q refused (Queued ahead) off = tt

  served_aside : (r : Replica) (refused : Bool) (o : Option Request) → is_of tx (of_first o) ≡ false
      → AreRefusals (served_tokens tx r refused o)
  served_aside r refused None off = tt
  served_aside r refused (Some q) off = none_of q.tx (performed_token r.cell q refused) off

  pub aside_tokens : (event : Event) (r : Replica) → is_of tx (worker_of event r) ≡ false
      → Each (λ (one : Token). one ≡ token.refuses) (event_tokens tx event r)
  aside_tokens rests r off = tt
  aside_tokens (asks q refused) r off =
      asked_aside r q refused (asked r.lock q.tx (work_mode q.work)).answer off
  aside_tokens (serves refused) r off = served_aside r refused (first (is_let_in r.lock) r.waiting) off
  aside_tokens (commits u at) r off = tt
  aside_tokens (completes u) r off = tt
  aside_tokens (aborts u) r off = tt
  aside_tokens (expires u) r off = refusal_of u
  aside_tokens (ages None) r off = tt
  aside_tokens (ages (Some u)) r off = refusal_of u

  module _ (P : Request → Type 0) where
    -- all of its requests are so
    abbrev pub AllSo : List Request → Type 0
    AllSo = Each (λ (q : Request). same_tx q.tx tx ≡ true → P q)

    asked_waits : (r : Replica) (now : RowLock) (q : Request) (refused : Bool) (a : Lock) → AllSo r.waiting
        → same_tx q.tx tx ≡ false → AllSo (asked_by r now q refused a).waiting
    asked_waits r now q refused Granted all off = all
    asked_waits r now q refused (Queued ahead) all off =
        each_append (λ (q : Request). same_tx q.tx tx ≡ true → P q) r.waiting (q ∷ []) all
        ((λ own. absurd (true≢false (sym own ∙ off))), tt)

    served_waits : (r : Replica) (refused : Bool) (o : Option Request) → AllSo r.waiting
        → AllSo (served_by r refused o).waiting
    served_waits r refused None all = all
    served_waits r refused (Some q) all =
        each-drop_first (λ (q : Request). same_tx q.tx tx ≡ true → P q) (is_let_in r.lock) r.waiting all

    dropped : (u : TxId) (xs : List Request) → AllSo xs → AllSo (drop_first (is_by u) xs)
    dropped u xs all = each-drop_first (λ (q : Request). same_tx q.tx tx ≡ true → P q) (is_by u) xs all

    pub aside_waits : (event : Event) (r : Replica) → is_of tx (worker_of event r) ≡ false → AllSo r.waiting
        → AllSo (key_after event r).waiting
    aside_waits rests r off all = all
    aside_waits (asks q refused) r off all =
        asked_waits r (asked r.lock q.tx (work_mode q.work)).lock q refused
        (asked r.lock q.tx (work_mode q.work)).answer all off
    aside_waits (serves refused) r off all = served_waits r refused (first (is_let_in r.lock) r.waiting) all
    aside_waits (commits u true) r off all = all
    aside_waits (commits u false) r off all = all
    aside_waits (completes u) r off all = all
    aside_waits (aborts u) r off all = dropped u r.waiting all
    aside_waits (expires u) r off all = dropped u r.waiting all
    aside_waits (ages None) r off all = all
    aside_waits (ages (Some u)) r off all = dropped u r.waiting all
