-- Blocks beside coordinators and rows send no tokens.
use Rattle.std.proofs.Common.{◌≡◌, true, false, List, refl, sym}
use Rattle.std.proofs.lemmas.Bool.{true≢false}
use Rattle.run_theory.specs.Lists.{Each}
use Rattle.run_theory.proofs.Pasts.{each_map}
use Rattle.sig_core.specs.declared.member.TxId.{TxId}
use Rattle.sig_core.specs.declared.outs.Outgoing.{Outgoing}
use Rattle.sig_core.specs.declared.signal.Body.{Body}
use Rattle.sig_core.specs.declared.signal.Body.TheVariants.{Chain}
use Rattle.sig_core.specs.declared.signal.Signal.{Signal}
use Rattle.sig_core.specs.declared.signal.chain.ChainSignal.TheVariants.{LqhKeyConf, LqhKeyRef, LqhKeyReq}
use Rattle.takeover_block.specs.State.{TakeoverState}
use Rattle.takeover_block.specs.Takeover.{takeover_row}
use Rattle.run_laws.specs.Tokens.{is_token}
use Rattle.view_laws.proofs.words.Sent.{each_of_kinds}
use Rattle.view_laws.proofs.words.Takeover.{is_of_takeover, takeover_kinds}
use Rattle.request_laws.proofs.routes.BesideRows.{AreAside, IsAside, is_of_rows}

module _ (tx : TxId) where
  abbrev pub IsNoToken : Outgoing → Type 0
  IsNoToken sent = is_token tx sent.body ≡ false

  abbrev pub AreNoTokens : List Outgoing → Type 0
  AreNoTokens sends = Each IsNoToken sends

  -- what isn't about rows is none, so only coordinators, rows and takeovers may send some
  pub aside_none : (sends : List Outgoing) → AreAside sends → AreNoTokens sends
  aside_none sends all = each_map IsAside IsNoToken sends (λ sent aside. one sent.body aside) all
    where
      one : (body : Body) → is_of_rows body ≡ false → is_token tx body ≡ false
      one (Chain signal) aside = absurd (true≢false aside)
      one body aside = refl

  -- a takeover commits, completes and aborts
  takeover_none : (body : Body) → is_of_takeover body ≡ true → is_token tx body ≡ false
  takeover_none (Chain (LqhKeyReq one work chain at)) is = absurd (true≢false (sym is))
  takeover_none (Chain (LqhKeyConf one key answer)) is = absurd (true≢false (sym is))
  takeover_none (Chain (LqhKeyRef one key cause)) is = absurd (true≢false (sym is))
  takeover_none body is = refl

  pub takeover_no_tokens : (s : TakeoverState) (x : Signal) → AreNoTokens (takeover_row s x).effects.sends
  takeover_no_tokens s x =
      each_of_kinds is_of_takeover (λ body. is_token tx body ≡ false) (takeover_row s x).effects.sends takeover_none
      (takeover_kinds s x)
