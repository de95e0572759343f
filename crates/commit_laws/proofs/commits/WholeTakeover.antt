-- What a takeover commits goes along all replicas of the key.
use Rattle.std.proofs.Common.{◌≡◌, List, refl, subst}
use Rattle.run_theory.specs.Lists.{Each}
use Rattle.sig_core.specs.declared.outs.Outgoing.{Outgoing}
use Rattle.sig_core.specs.declared.signal.Body.{Body}
use Rattle.sig_core.specs.declared.signal.Body.TheVariants.{Chain}
use Rattle.sig_core.specs.declared.signal.Signal.{Signal}
use Rattle.sig_core.specs.declared.signal.chain.ChainSignal.TheVariants.{Commit}
use Rattle.frag_map.specs.Layout.{Layout, chain_of}
use Rattle.takeover_block.specs.State.{TakeoverState}
use Rattle.takeover_block.specs.Takeover.{takeover_row}
use Rattle.sig_core.specs.declared.mark.Mark.{Mark}
use Rattle.takeover_block.proofs.Walk.{takeover_does}

-- a commit goes along the replicas of its key in the layout
abbrev pub GoesAlong : Layout → Body → Type 0
GoesAlong layout (Chain (Commit tx key epoch chain at)) = chain ≡ chain_of layout key
GoesAlong layout body = Unit {0}

abbrev pub GoAlong : Layout → List Outgoing → Type 0
GoAlong layout sends = Each (λ (o : Outgoing). GoesAlong layout o.body) sends

own_along : (s : TakeoverState) (x : Signal) → GoAlong s.layout (takeover_row s x).effects.sends
own_along s x =
    (takeover_does s x (λ (o : Outgoing). GoesAlong s.layout o.body) (λ (mark : Mark). Unit {0}) (record {
      asks = λ member. tt;
      asks_on = λ left. tt;
      commits = λ g epoch n drives key there. refl;
      confirms = λ g epoch n drives. tt;
      completes = λ g epoch n drives key there. tt;
      aborts = λ g n drives key there member among. tt;
      drives_on = λ g left. tt;
      gives_up = λ g key n is first at last. tt;
      ends = λ gathered rules none. (tt, tt);
    })).0

-- whatever it takes
pub takeover_along : (layout : Layout) (s : TakeoverState) (x : Signal) → s.layout ≡ layout
    → GoAlong layout (takeover_row s x).effects.sends
takeover_along layout s x same =
    subst (λ (l : Layout). GoAlong l (takeover_row s x).effects.sends) same (own_along s x)
