-- What a step of the shell's host comes to for its client: what is so of each form of a step of the client's side, and
-- of what the host does beside it, is so of each step of the host.
use Rattle.std.proofs.Common.{◌≡◌, ◌||◌, ℕ, zero, suc, Bool, true, false, List, [], ◌∷◌, refl, subst, sym}
use Rattle.std.specs.Prelude.{nat_lt, not, Option, None, Some}
use Rattle.std.specs.List.{list_any}
use Rattle.run_theory.specs.Lists.{Each}
use Rattle.run_theory.proofs.Pasts.{each_map}
use Rattle.sig_core.specs.declared.mark.Mark.{Mark}
use Rattle.sig_core.specs.declared.mark.Mark.TheVariants.{Installed, Reported}
use Rattle.sig_core.specs.declared.member.HostId.{HostId}
use Rattle.sig_core.specs.declared.outcome.StopCause.{StopCause}
use Rattle.sig_core.specs.declared.outs.Outgoing.{Outgoing}
use Rattle.sig_core.specs.declared.place.BlockId.{BlockId}
use Rattle.sig_core.specs.declared.place.BlockId.TheVariants as block
use Rattle.sig_core.specs.declared.reply.ApiReply.{ApiReply}
use Rattle.sig_core.specs.declared.signal.Body.{Body}
use Rattle.sig_core.specs.declared.signal.Body.TheVariants.{Client, Host}
use Rattle.sig_core.specs.declared.signal.Signal.{Signal}
use Rattle.sig_core.specs.declared.signal.client.ClientSignal.TheVariants.{TcCommitReq, TcKeyReq}
use Rattle.sig_core.specs.declared.signal.host.HostSignal.TheVariants.{Closed, Cut, Kill}
use Rattle.sig_core.specs.declared.view.View.{View}
use Rattle.sig_core.specs.Step.{Step}
use Rattle.api_block.specs.declared.opened.OpenTransaction.{OpenTransaction}
use Rattle.api_views.specs.Client.{client_row}
use Rattle.api_views.specs.Members.{noted, same_member}
use Rattle.api_views.specs.State.{ClientState}
use Rattle.arbiter_block.specs.Arbiter.{arbiter_row}
use Rattle.node_views.specs.declared.host_body.HostBody as hosts
use Rattle.node_views.specs.declared.parts.Parts.TheVariants.{Shell}
use Rattle.node_views.specs.declared.shell_part.ShellPart.{ShellPart}
use Rattle.node_views.specs.declared.standing.Standing.{Standing}
use Rattle.node_views.specs.Parts.{shell_entered, shell_row}
use Rattle.node_views.specs.Replies.{replies_in}
use Rattle.node_views.specs.Row.{blocks_row, closed_if, counted_row, cut_if, entered, entering_if, headed_if}
use Rattle.node_views.specs.Row.{headed_row, host_row, host_table, in_view, is_barred, is_cut, is_excluded, is_stop}
use Rattle.node_views.specs.Row.{kill_row, killed_after, passed_if, passed_row, taken_if, unless_stopped}
use Rattle.node_views.specs.WellFormed.{is_first, is_well_formed}
use Rattle.node_views.proofs.StopWalk.{counted_stops}
use Rattle.outcome_laws.proofs.knowledge.TellsNothing.{untold_uncounted}
use Rattle.outcome_laws.proofs.knowledge.Parts.{arbiter_tells_nothing}
use Rattle.outcome_laws.proofs.once.Counted.{IsUncounted, is_counted}
use Rattle.outcome_laws.proofs.knowledge.MarksOfNoOutcome.{IsNoOutcome}
use Rattle.report_laws.specs.Told.{outcomes_marked}
use Rattle.world_views.specs.Machine.{own_stop, step_by, step_if}
use Rattle.answer_laws.proofs.ApiSteps.{is_calm}
use Rattle.talk_laws.specs.Reports.{opened_in}
use Rattle.talk_laws.proofs.ClientTalks.{ArePlain, IsPlain, Talk, TalkForms, client_talks}

-- the marks report no end
abbrev pub AreUnreported : List Mark → Type 0
AreUnreported marks = outcomes_marked marks ≡ []

-- R is of a step in which the client's side does nothing, whatever else the host does; and it stays so where a view is
-- installed in front
pub record HostForms (opened : List OpenTransaction) (before : List ApiReply) (R : Talk) : Type 0 where
  pub stays : (sends : List Outgoing) (marks : List Mark) → ArePlain sends → AreUnreported marks
      → R opened sends marks before
  pub installs : (now : List OpenTransaction) (sends : List Outgoing) (marks : List Mark) (replies : List ApiReply)
      (view : View)
      → R now sends marks replies → R now sends (Installed view ∷ marks) replies

-- what the arbitrator sends and marks
plain_body : (body : Body) → is_counted body ≡ false → is_calm body ≡ true
plain_body (Client (TcKeyReq tx op)) off = absurd cc
plain_body (Client (TcCommitReq tx)) off = absurd cc
plain_body body off = refl

no_outcomes : (marks : List Mark) → Each IsNoOutcome marks → AreUnreported marks
no_outcomes [] none = refl
no_outcomes (Reported tx outcome ∷ marks) none = absurd (let no = none.0 in cc)
no_outcomes (mark ∷ marks) none = no_outcomes marks none.1

-- the client's side doesn't stop its host
unstopped : (s : ClientState) (x : Signal) → list_any is_stop (client_row s x).effects.marks ≡ false
unstopped s x =
    client_talks s x (λ now sends marks replies. list_any is_stop marks ≡ false)
    (record {
      keeps = λ sends plain mute. refl;
      opens = λ name node sends new plain mute. refl;
      opens_alone = λ op node sends is plain mute. refl;
      begins = λ name tx at f is mute. refl;
      begins_alone = λ name tx at f op is nameless does mute. refl;
      waits = λ p at f ahead sends plain mute. refl;
      operates = λ name op at f tx is ready own mute. refl;
      answers = λ tx answer at f name is does called. refl;
      answers_last = λ tx answer at f is does nameless. refl;
      wishes = λ p at f tx ready own mute. refl;
      drops = λ p at f sends plain mute. refl;
      ends = λ p at f tx outcome sends own plain. refl;
    })

module _ (x : Signal) (R : Talk) where
  -- so it is of a step of the host, which sends nothing if it stops with it
  abbrev Comes : Step hosts.HostBody → Type 0
  Comes t =
      R (opened_in t.state.parts) (unless_stopped t.effects.sends (list_any is_stop t.effects.marks)) t.effects.marks
      (replies_in t.state.parts)

  module _ (p : ShellPart) (forms : TalkForms p.client.api.opened p.client.api.replies x.body R)
      (beside : HostForms p.client.api.opened p.client.api.replies R)
    where
      module _ (standing : Standing) where
        abbrev s : hosts.HostBody
        s = record { standing = standing; parts = Shell p }

        quiet : (marks : List Mark) → AreUnreported marks → R p.client.api.opened [] marks p.client.api.replies
        quiet marks none = beside.stays [] marks tt none

        abbrev sends : List Outgoing
        sends = (arbiter_row p.arbiter x).effects.sends

        abbrev marks : List Mark
        marks = (arbiter_row p.arbiter x).effects.marks

        arbitrates : R p.client.api.opened (unless_stopped sends (list_any is_stop marks)) marks p.client.api.replies
        arbitrates =
            beside.stays (unless_stopped sends (list_any is_stop marks)) marks (by (list_any is_stop marks))
            (no_outcomes marks (arbiter_tells_nothing p.arbiter x).1)
          where
            by : (b : Bool) → ArePlain (unless_stopped sends b)
            by true = tt
            by false =
                each_map IsUncounted IsPlain sends (λ sent off. plain_body sent.body off)
                (untold_uncounted sends (arbiter_tells_nothing p.arbiter x).0)

        blocks_come : Comes (blocks_row s x)
        unfolding blocks_row shell_row
        blocks_come = by x.to.block
          where
            by : (b : BlockId)
                → R (shell_row p b x).state.client.api.opened
                (unless_stopped (shell_row p b x).effects.sends (list_any is_stop (shell_row p b x).effects.marks))
                (shell_row p b x).effects.marks (shell_row p b x).state.client.api.replies
            by block.Api =
                let row = client_row p.client x in
                subst
                (λ b.
                R row.state.api.opened (unless_stopped row.effects.sends b) row.effects.marks row.state.api.replies)
                (sym (unstopped p.client x)) (client_talks p.client x R forms)
            by block.Arbiter = arbitrates
            by _ = quiet [] refl

        killed_comes : (after : ℕ) → Comes (kill_row s after)
        killed_comes zero = quiet _ refl
        killed_comes (suc after) = quiet [] refl

        cut_comes : (first : HostId) (b : Bool) → Comes (cut_if s first b)
        cut_comes first true = quiet [] refl
        cut_comes first false = quiet _ refl

        closed_comes : (b : Bool) → Comes (closed_if s x b)
        closed_comes true = quiet _ refl
        closed_comes false = blocks_come

        table_comes : (body : Body) → Comes (host_table s x body)
        table_comes (Host (Kill after)) = killed_comes after
        table_comes (Host (Cut node first)) = cut_comes first (is_cut standing first || not (is_first first))
        table_comes (Host (Closed cause)) = closed_comes (same_member standing.member x.member)
        table_comes body = blocks_come

        passed_comes : Comes (passed_row s x)
        unfolding passed_row
        passed_comes = by (is_barred s x)
          where
            by : (b : Bool) → Comes (passed_if s x b)
            by true = quiet [] refl
            by false = table_comes x.body

  module _ (p : ShellPart) (forms : TalkForms p.client.api.opened p.client.api.replies x.body R)
      (beside : HostForms p.client.api.opened p.client.api.replies R)
    where
      headed_comes : (standing : Standing) → Comes (headed_row (record { standing = standing; parts = Shell p }) x)
      unfolding headed_row entered noted
      headed_comes standing = by (nat_lt standing.view.number x.view.number)
        where
          s : hosts.HostBody
          s = record { standing = standing; parts = Shell p }

          behind : Comes (passed_row (entered s x.view).state x)
          behind = passed_comes (shell_entered p x.view).state forms beside (in_view standing x.view)

          unless_excluded : (b : Bool) → Comes (entering_if s x b)
          unless_excluded true = quiet p forms beside standing _ refl
          unless_excluded false =
              let t = passed_row (entered s x.view).state x in
              beside.installs (opened_in t.state.parts)
              (unless_stopped t.effects.sends (list_any is_stop t.effects.marks)) t.effects.marks
              (replies_in t.state.parts) x.view behind

          by : (b : Bool) → Comes (headed_if s x b)
          by true = unless_excluded (is_excluded standing x.view)
          by false = passed_comes p forms beside standing

      counted_comes : (standing : Standing) (left : Option ℕ)
          → Comes (counted_row (record { standing = standing; parts = Shell p }) x left)
      counted_comes standing None = headed_comes standing
      counted_comes standing (Some zero) = quiet p forms beside standing _ refl
      counted_comes standing (Some (suc zero)) = quiet p forms beside standing _ refl
      counted_comes standing (Some (suc (suc left))) = headed_comes (killed_after standing (Some (suc left)))

      abbrev Done : Step hosts.HostBody → Type 0
      Done t = R (opened_in t.state.parts) t.effects.sends t.effects.marks (replies_in t.state.parts)

      row_does : (standing : Standing) → Done (host_row (record { standing = standing; parts = Shell p }) x)
      unfolding host_row
      row_does standing = by (is_well_formed standing.shape x)
        where
          s : hosts.HostBody
          s = record { standing = standing; parts = Shell p }

          by : (b : Bool) → Done (taken_if s x b)
          by true =
              let t = counted_row s x standing.left in
              subst
              (λ b.
              R (opened_in t.state.parts) (unless_stopped t.effects.sends b) t.effects.marks (replies_in t.state.parts))
              (counted_stops s x standing.left) (counted_comes standing standing.left)
          by false = quiet p forms beside standing [] refl

      -- whatever signal it is
      step_does : (standing : Standing) → Done (step_by 0 (record { standing = standing; parts = Shell p }) x)
      step_does standing = by (own_stop 0 x)
        where
          by : (o : Option StopCause) → Done (step_if (record { standing = standing; parts = Shell p }) x o)
          by (Some cause) = quiet p forms beside standing _ refl
          by None = row_does standing

  pub shell_talks : (h : hosts.HostBody) (p : ShellPart) → h.parts ≡ Shell p
      → TalkForms p.client.api.opened p.client.api.replies x.body R
      → HostForms p.client.api.opened p.client.api.replies R
      → R (opened_in (step_by 0 h x).state.parts) (step_by 0 h x).effects.sends (step_by 0 h x).effects.marks
      (replies_in (step_by 0 h x).state.parts)
  shell_talks h p is forms beside =
      subst
      (λ parts.
      let t = step_by 0 (record { standing = h.standing; parts = parts }) x in
      R (opened_in t.state.parts) t.effects.sends t.effects.marks (replies_in t.state.parts))
      (sym is) (step_does p forms beside h.standing)
