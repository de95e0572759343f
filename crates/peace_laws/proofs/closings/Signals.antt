-- What a signal of a closing, or a request for one, tells by its block and its body.
use Rattle.std.proofs.Common.{◌≡◌, ℕ, Bool, true, false, refl, sym, ap, ◌∙◌}
use Rattle.std.proofs.lemmas.Bool.{and_right, false≢true, true≢false}
use Rattle.api_views.specs.Laws.{is_vouched}
use Rattle.node_core.specs.Requests.{is_request}
use Rattle.sig_core.specs.declared.outcome.StopCause.{StopCause}
use Rattle.sig_core.specs.declared.place.BlockId.{BlockId}
use Rattle.sig_core.specs.declared.place.BlockId.TheVariants as block
use Rattle.sig_core.specs.declared.signal.Body.{Body}
use Rattle.sig_core.specs.declared.signal.Body.TheVariants.{Host, Epoch}
use Rattle.sig_core.specs.declared.signal.Signal.{Signal}
use Rattle.sig_core.specs.declared.signal.epoch.EpochSignal.{EpochSignal}
use Rattle.sig_core.specs.declared.signal.epoch.EpochSignal.TheVariants as epoch
use Rattle.sig_core.specs.declared.signal.host.HostSignal.TheVariants.{Closed, Continue}
use Rattle.sig_core.specs.declared.signal.host.Work.TheVariants as work
use Rattle.world_views.specs.Sending.{is_own_work}
use Rattle.calm_laws.specs.Calm.{is_calm, is_for}
use Rattle.calm_laws.specs.Plain.{is_beating}
use Rattle.calm_laws.specs.Steps.{is_of_views}
use Rattle.calm_laws.proofs.lives.CalmSignals.{is_client, no_closing, no_views, own_request}
use Rattle.calm_laws.proofs.lives.CalmSignals.{vouched_client}
use Rattle.calm_laws.proofs.plain_steps.Ease.{has_calm_block, takes_calmly}
use Rattle.peace_laws.specs.Peace.{asks_by, asks_closing, has_closer, is_closing, is_for_closing, is_order}

-- what is of a closing is nothing that a host asks of itself
pub closing_given : (of : BlockId) (body : Body) → is_for_closing of body ≡ true → is_own_work body ≡ false
closing_given of (Epoch signal) closing = refl
closing_given block.GcpMaster (Host (Continue work.Members at)) closing = refl
closing_given of body closing = absurd cc

pub closing_asks : (of : BlockId) (body : Body) → is_for_closing of body ≡ true → is_request body ≡ false
closing_asks of (Epoch signal) closing = refl
closing_asks block.GcpMaster (Host (Continue work.Members at)) closing = refl
closing_asks of body closing = absurd cc

-- nor anything that is taken in calm
order_apart : (of : BlockId) (signal : EpochSignal) → is_order of signal ≡ true → is_for of (Epoch signal) ≡ false
order_apart block.Api signal order = refl
order_apart block.Qmgr signal order = refl
order_apart block.Tc (epoch.DiVerifyConf tx other) order = absurd cc
order_apart block.Tc signal order = refl
order_apart block.Dih (epoch.DiVerifyReq tx ops) order = absurd cc
order_apart block.Dih (epoch.DiVerifyEnd tx) order = absurd cc
order_apart block.Dih signal order = refl
order_apart block.Lqh signal order = refl
order_apart of signal order = refl

closing_apart : (of : BlockId) (body : Body) → is_for_closing of body ≡ true → is_for of body ≡ false
closing_apart of (Epoch signal) closing = order_apart of signal closing
closing_apart block.GcpMaster (Host (Continue work.Members at)) closing = refl
closing_apart of body closing = absurd cc

pub calm_apart : (h : ℕ) (x : Signal) → is_calm h x ≡ true → is_for_closing x.to.block x.body ≡ false
calm_apart h x calm = go (is_for_closing x.to.block x.body) refl
  where
    go : (b : Bool) → is_for_closing x.to.block x.body ≡ b → b ≡ false
    go true closing =
        absurd (false≢true (sym (closing_apart x.to.block x.body closing) ∙ takes_calmly h x calm))
    go false apart = refl

pub not_closing : (h : ℕ) (x : Signal) → is_for_closing x.to.block x.body ≡ false → is_closing h x ≡ false
not_closing h x apart = and_right (has_closer h x.to.block) (is_for_closing x.to.block x.body) apart

-- nor does it close a link
pub closing_links : (of : BlockId) (body : Body) (cause : StopCause) → is_for_closing of body ≡ true
    → body ≡ Host (Closed cause) → ⊥
closing_links of body cause closing is =
    true≢false (ap is_own_work (sym is) ∙ closing_given of body closing)

-- What the plain host takes too: it is for a block that only others than main parts have, and of no closing of epochs
-- or links; what the host asks of itself is a request, and what must be vouched for is for the client.
pub record IsPlainKind (of : BlockId) (body : Body) : Type 0 where
  pub views : is_of_views of ≡ true → ⊥
  pub apart : is_for_closing of body ≡ false
  pub links : (cause : StopCause) → body ≡ Host (Closed cause) → ⊥
  pub own : is_own_work body ≡ true → is_request body ≡ true
  pub client : is_vouched body ≡ true → is_client of ≡ true

-- what is taken in calm closes no link
pub calm_links : (h : ℕ) (x : Signal) → is_calm h x ≡ true → (cause : StopCause) → x.body ≡ Host (Closed cause) → ⊥
calm_links h x calm cause is =
    false≢true (sym (no_closing x.to.block cause) ∙ ap (is_for x.to.block) (sym is) ∙ takes_calmly h x calm)

-- so it is in calm,
pub calm_kind : (h : ℕ) (x : Signal) → is_beating h ≡ false → is_calm h x ≡ true → IsPlainKind x.to.block x.body
calm_kind h x takes calm =
    record {
      views = no_views h x.to.block takes (has_calm_block h x calm);
      apart = calm_apart h x calm;
      links = calm_links h x calm;
      own = own_request x.to.block x.body (takes_calmly h x calm);
      client = vouched_client x.to.block x.body (takes_calmly h x calm);
    }

-- and where the client's side is asked for a closing
asking : (of : BlockId) (body : Body) → asks_by of body ≡ true → IsPlainKind of body
asking block.Api (Host (Continue (work.Request request) at)) asks =
    record {
      views = λ views. absurd cc;
      apart = refl;
      links = λ cause is. absurd cc;
      own = λ own. refl;
      client = λ vouched. refl;
    }
asking of body asks = absurd cc

pub asks_kind : (x : Signal) → asks_closing 0 x ≡ true → IsPlainKind x.to.block x.body
asks_kind x asks = asking x.to.block x.body asks
