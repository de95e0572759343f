-- Laws of a host's row.
use Rattle.std.proofs.Common.{◌≡◌, List, [], ◌++◌, true, refl, ap, sym, ◌∙◌}
use Rattle.std.proofs.lemmas.List.{append-nil}
use Rattle.sig_core.specs.declared.place.BlockId.{BlockId}
use Rattle.sig_core.specs.declared.place.BlockId.TheVariants as block
use Rattle.sig_core.specs.declared.reply.ApiReply.{ApiReply}
use Rattle.sig_core.specs.declared.signal.Signal.{Signal}
use Rattle.sig_core.specs.Step.{Step}
use Rattle.api_block.proofs.ApiLemmas as api
use Rattle.api_block.specs.Given as before
use Rattle.api_block.specs.State.{ApiState}
use Rattle.api_block.specs.State as state
use Rattle.node_core.specs.declared.host.Host.{Host}
use Rattle.node_core.specs.declared.host.Host.TheVariants.{Shell, Main, Tc, Ldm}
use Rattle.node_core.specs.Blocks.{api_of, dih_of, lqh_of, tc_of}
use Rattle.node_core.specs.Replies.{replies_of}
use Rattle.node_core.specs.Requests.{asks_nothing}
use Rattle.node_core.specs.Row.{row, shell_row}
use Rattle.node_core.proofs.DihAsks.{dih_asks}
use Rattle.node_core.proofs.HostCases.{of_effects}
use Rattle.node_core.proofs.LqhAsks.{lqh_asks}
use Rattle.node_core.proofs.TcAsks.{tc_asks}

-- the second list is the first and some more
pub record IsFront {A : Type 0} (front all : List A) : Type 0 where
  pub more : List A
  pub is : all ≡ front ++ more

-- no host sends a request
pub rows_ask : (s : Host) (x : Signal) → asks_nothing (row s x).effects.sends ≡ true
rows_ask s x =
    of_effects (λ f. asks_nothing f.sends ≡ true) s x refl
    (record {
      api = λ runs at. api.api_asks (api_of s) x.body;
      tc = λ runs at. tc_asks (tc_of s) x.body;
      dih = λ runs at. dih_asks (dih_of s) x.body;
      rows = λ runs at. lqh_asks (lqh_of s) x.body;
    })

shell_given : (given : List ApiReply) (s : ApiState) (at : BlockId) (x : Signal)
    → shell_row (before.in_given given s) at x ≡ before.step_in_given given (shell_row s at x)
unfolding shell_row
shell_given given s block.Api x = api.given_row given s x.body
shell_given given s _ x = refl

-- a row adds replies behind those that there are
shell_grows : (s : ApiState) (at : BlockId) (x : Signal) → IsFront s.replies (shell_row s at x).state.replies
shell_grows s at x =
    let bare = state.with_replies s [] in
    let same : before.in_given s.replies bare ≡ s = ap (state.with_replies s) (append-nil s.replies) in
    record {
      more = (shell_row bare at x).state.replies;
      is = ap (λ (t : ApiState). (shell_row t at x).state.replies) (sym same)
          ∙ ap (λ (t : Step ApiState). t.state.replies) (shell_given s.replies bare at x);
    }

pub replies_grow : (s : Host) (x : Signal) → IsFront (replies_of s) (replies_of (row s x).state)
unfolding replies_of row
replies_grow (Shell s) x = shell_grows s x.to.block x
replies_grow (Main m) x = record { more = []; is = refl }
replies_grow (Tc p) x = record { more = []; is = refl }
replies_grow (Ldm l) x = record { more = []; is = refl }
