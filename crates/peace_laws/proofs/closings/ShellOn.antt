-- A closing goes on where the client's side takes the report of its end: the client is told, unless it was before.
use Rattle.std.proofs.Common.{◌≡◌, ◌≢◌, ◌⊎◌, ◌∙◌, ◌++◌, inl, inr, ℕ, Bool, true, false, List, [], ◌∷◌, refl, sym, ap}
use Rattle.std.proofs.Common.{subst, append-nil}
use Rattle.std.proofs.lemmas.Bool.{false≢true, true≢false}
use Rattle.std.specs.Prelude.{None, Some}
use Rattle.api_views.specs.declared.closings.Closing.{Closing}
use Rattle.api_views.specs.declared.closings.Closing.TheVariants.{Gcp, Micro, Lcp}
use Rattle.api_views.specs.Client.{client_row, client_table}
use Rattle.api_views.specs.Closings.{closed_if, closed_reply, closed_row, is_asked}
use Rattle.api_views.specs.State.{ClientState}
use Rattle.gcp_master.specs.State.{MasterState}
use Rattle.gcp_master.specs.declared.voices.Voice.{Voice}
use Rattle.node_views.specs.Blocks.{in_shell, parts_row}
use Rattle.node_views.specs.Parts.{in_client, shell_row}
use Rattle.node_views.specs.declared.parts.Parts.{Parts}
use Rattle.node_views.specs.declared.parts.Parts.TheVariants.{Shell, Main, Tc, Ldm}
use Rattle.node_views.specs.declared.shell_part.ShellPart.{ShellPart}
use Rattle.run_theory.specs.Lists.{IsIn}
use Rattle.run_theory.proofs.Pasts.{each_map}
use Rattle.sig_core.specs.declared.outs.Outgoing.{Outgoing}
use Rattle.sig_core.specs.declared.place.BlockId.TheVariants as block
use Rattle.sig_core.specs.declared.place.Place.{Place}
use Rattle.sig_core.specs.declared.reply.ApiReply.{ApiReply}
use Rattle.sig_core.specs.declared.signal.Body.TheVariants.{Epoch}
use Rattle.sig_core.specs.declared.signal.Signal.{Signal}
use Rattle.sig_core.specs.Step.{Step, stay}
use Rattle.world_core.specs.Start.{Start}
use Rattle.calm_laws.specs.Alike.{first}
use Rattle.peace_laws.specs.Closing.{Course, HasRows, closes_epoch, host_in, main}
use Rattle.peace_laws.specs.Moments.{IsTaken, Moment, Takes, behind, told_by}
use Rattle.peace_laws.specs.UnderWay.{AReport, Commits, CommittedAt, HasCommitted, HasMember, IsAnswered, IsAt}
use Rattle.peace_laws.specs.UnderWay.{IsClient, IsLeft}
use Rattle.peace_laws.specs.UnderWay.{IsOver, IsOwed, IsTrue, IsUnderWay, ShellHas, Stage}
use Rattle.peace_laws.specs.UnderWay.{report_by, report_of}
use Rattle.peace_laws.proofs.closings.Steps.{row_at, row_is, seen}
use Rattle.peace_laws.proofs.closings.WayOn.{committed_on, letters_on, shell_apart, stays_true, stepped}

-- what the client's side does at the report
report_row : (s : ClientState) (x : Signal) (c : Course) → s.api.view ≡ x.view → x.body ≡ (report_of c).body
    → client_row s x ≡ stay (closed_if s c.kind c.epoch (is_asked c.kind s.closing))
unfolding closed_row
report_row s x c view body =
    ap (λ (t : ClientState). client_table t x x.body) (seen s x.view view)
    ∙ ap (client_table s x) body
    ∙ by c.kind c.closes
  where
    by : (kind : Closing) → closes_epoch kind ≡ true
        → client_table s x (Epoch (report_by c.epoch kind))
        ≡ stay (closed_if s kind c.epoch (is_asked kind s.closing))
    by Gcp closes = refl
    by Micro closes = refl
    by Lcp closes = absurd (false≢true closes)

shell_row_is : (p : ShellPart) (x : Signal) → block.Api ≡ x.to.block
    → in_shell (in_client p (client_row p.client x)) ≡ parts_row (Shell p) x
unfolding shell_row
shell_row_is p x to = ap (λ b. row_at (Shell p) b x) to ∙ row_is (Shell p) x

own_asked : (kind : Closing) → is_asked kind (Some kind) ≡ true
own_asked Gcp = refl
own_asked Micro = refl
own_asked Lcp = refl

none_asked : (kind : Closing) → is_asked kind None ≡ false
none_asked Gcp = refl
none_asked Micro = refl
none_asked Lcp = refl

-- What the shell's host does at the report.
record ShellTold (start : Start) (c : Course) (parts : Parts) (before : List ApiReply) (t : Step Parts) : Type 0 where
  is_client : ShellHas (IsClient start) (behind 0 t.state)
  closed : ShellHas (λ s. s.closing ≡ None) (behind 0 t.state)
  replies : before ++ told_by 0 t.state ≡ c.before ++ closed_reply c.kind c.epoch ∷ []
  sends : t.effects.sends ≡ []

module _ (start : Start) (c : Course) (x : Signal) (view : x.view ≡ first start) (body : x.body ≡ (report_of c).body)
    (to : block.Api ≡ x.to.block) (before : List ApiReply) where
  abbrev IsToldBy : Parts → Step Parts → Type 0
  IsToldBy parts t = ShellTold start c parts before t

  shell_told : (p : ShellPart) → IsClient start p.client
      → (asked : Bool) → is_asked c.kind p.client.closing ≡ asked
      → ((asked ≡ true → before ≡ c.before)
      × (asked ≡ false → (p.client.closing ≡ None) × (before ≡ c.before ++ closed_reply c.kind c.epoch ∷ [])))
      → IsToldBy (Shell p) (in_shell (in_client p (stay (closed_if p.client c.kind c.epoch asked))))
  shell_told p is true asked was = record {
    is_client = record { view = is.view; replies = refl };
    closed = refl;
    replies =
        ap (λ (base : List ApiReply). base ++ (p.client.api.replies ++ closed_reply c.kind c.epoch ∷ [])) (was.0 refl)
        ∙ ap (λ (own : List ApiReply). c.before ++ (own ++ closed_reply c.kind c.epoch ∷ [])) is.replies;
    sends = refl;
  }
  shell_told p is false asked was = record {
    is_client = record { view = is.view; replies = refl };
    closed = (was.1 refl).0;
    replies =
        ap (λ (own : List ApiReply). before ++ own) is.replies ∙ append-nil before ∙ (was.1 refl).1;
    sends = refl;
  }

  by_parts : (parts : Parts) → ShellHas (IsClient start) parts
      → (ShellHas (λ s. s.closing ≡ Some c.kind) parts × (before ≡ c.before))
      ⊎ (ShellHas (λ s. s.closing ≡ None) parts × (before ≡ c.before ++ closed_reply c.kind c.epoch ∷ []))
      → IsToldBy parts (parts_row parts x)
  by_parts (Shell p) is told =
      subst (IsToldBy (Shell p))
      (ap (λ t. in_shell (in_client p t)) (sym (report_row p.client x c (is.view ∙ sym view) body))
      ∙ shell_row_is p x to)
      (go told)
    where
      go : ((p.client.closing ≡ Some c.kind) × (before ≡ c.before))
          ⊎ ((p.client.closing ≡ None) × (before ≡ c.before ++ closed_reply c.kind c.epoch ∷ []))
          → IsToldBy (Shell p)
          (in_shell (in_client p (stay (closed_if p.client c.kind c.epoch (is_asked c.kind p.client.closing)))))
      go (inl untold) =
          let asked : is_asked c.kind p.client.closing ≡ true =
          ap (is_asked c.kind) untold.0 ∙ own_asked c.kind in
          shell_told p is (is_asked c.kind p.client.closing) refl
          ((λ asked. untold.1), (λ none. absurd (true≢false (sym asked ∙ none))))
      go (inr answered) =
          let none : is_asked c.kind p.client.closing ≡ false =
          ap (is_asked c.kind) answered.0 ∙ none_asked c.kind in
          shell_told p is (is_asked c.kind p.client.closing) refl
          ((λ asked. absurd (true≢false (sym asked ∙ none))), (λ none. answered))
  by_parts (Main p) is told = absurd is
  by_parts (Tc p) is told = absurd is
  by_parts (Ldm p) is told = absurd is

module _ (start : Start) (c : Course) (before after : Moment) (w : IsUnderWay start c before)
    (step : Takes start before after) (report : AReport c step.sender step.host step.sent) where
  abbrev s : MasterState
  s = w.main_part.master

  abbrev now : Step Parts
  now = stepped start c before after w step

  told : ShellTold start c (before.parts step.host) before.replies now
  told =
      by_parts start c step.x step.says.view (step.says.body ∙ ap (λ (o : Outgoing). o.body) report.is)
      (sym (ap (λ (p : Place). p.block) (step.says.to ∙ ap (λ (o : Outgoing). o.to) report.is))) before.replies
      (before.parts step.host)
      (subst (λ h. ShellHas (IsClient start) (before.parts h)) (sym report.to) w.shell)
      (subst (λ h.
      (ShellHas (λ s. s.closing ≡ Some c.kind) (before.parts h) × (before.replies ≡ c.before))
      ⊎ (ShellHas (λ s. s.closing ≡ None) (before.parts h)
      × (before.replies ≡ c.before ++ closed_reply c.kind c.epoch ∷ []))) (sym report.to) w.told)

  after_is : after.parts 0 ≡ behind 0 now.state
  after_is =
      ap after.parts (sym report.to) ∙ step.own ∙ ap (λ h. behind h now.state) report.to

  replies_are : after.replies ≡ before.replies ++ told_by 0 now.state
  replies_are = step.told ∙ ap (λ h. before.replies ++ told_by h now.state) report.to

  answered : IsAnswered c after
  answered = (
    subst (ShellHas (λ s. s.closing ≡ None)) (sym after_is) told.closed,
    replies_are ∙ told.replies,
  )

  -- nothing else was there
  none_of : (P : Parts → Type 0) → ((p : ShellPart) → P (Shell p) → ⊥) → P (before.parts step.host)
      → P (behind step.host now.state)
  none_of P off was =
      absurd
      (go (before.parts step.host) (subst (λ h. ShellHas (IsClient start) (before.parts h)) (sym report.to) w.shell)
      was)
    where
      go : (parts : Parts) → ShellHas (IsClient start) parts → P parts → ⊥
      go (Shell p) is was = off p was
      go (Main p) is was = absurd is
      go (Tc p) is was = absurd is
      go (Ldm p) is was = absurd is

  committed : (place : ℕ) → CommittedAt c before place → CommittedAt c after place
  committed = committed_on start c before after w step (none_of (HasCommitted c) (λ p none. none))

  stays_coming : (i j : ℕ) (one : Outgoing) → j ≢ 0 → IsIn one (before.under_way i j) → IsIn one (after.under_way i j)
  stays_coming i j one apart is = go (step.keeps i j one is)
    where
      go : IsIn one (after.under_way i j) ⊎ IsTaken step.sender step.host step.sent i j one
          → IsIn one (after.under_way i j)
      go (inl still) = still
      go (inr gone) = absurd (apart (gone.1.0 ∙ report.to))

  main_off : main ≢ 0
  main_off same = absurd (cc same)

  owed_on : (stage : Stage) (place : ℕ) (rows : Bool) → IsOwed start c stage before s place rows
      → IsOwed start c stage after s place rows
  owed_on stage place rows (inl heard) = inl heard
  owed_on stage place rows (inr (inl said)) = inr (inl (stays_coming (host_in place rows) main _ main_off said))
  owed_on stage place rows (inr (inr (inl coming))) =
      inr (inr (inl (stays_coming main (host_in place rows) _ (λ same. shell_apart place rows (sym same)) coming)))
  owed_on stage place rows (inr (inr (inr unsent))) =
      inr (inr (inr (record {
        at = unsent.at;
        low = unsent.low;
        coming = stays_coming main main _ main_off unsent.coming;
        left = unsent.left;
      })))

  true_on : (of : Stage) (voice : Voice) → IsTrue start c before of voice → IsTrue start c after of voice
  true_on Commits voice is = λ place low own. committed place (is place low own)
  true_on of voice is = tt

  stage_on : (stage : Stage) → IsAt start c stage before s → IsAt start c stage after s
  stage_on stage at = record {
    phase_is = at.phase_is;
    front = at.front;
    owed = λ place low rows ordered. owed_on stage place rows (at.owed place low rows ordered);
    heard = each_map (IsTrue start c before stage) (IsTrue start c after stage) s.voices (true_on stage) at.heard;
    few = at.few;
    missing = at.missing;
    committed = λ beyond place low. committed place (at.committed beyond place low);
    global = at.global;
  }

  over_on : IsOver start c before s → IsOver start c after s
  over_on over = record {
    phase_is = over.phase_is;
    committed = λ place low. committed place (over.committed place low);
    report = inl answered;
    front = front over.front;
  }
    where
      front : (s.front ≡ None) ⊎ IsLeft start c before s → (s.front ≡ None) ⊎ IsLeft start c after s
      front (inl none) = inl none
      front (inr left) =
          inr (record {
            front = left.front;
            global = left.global;
            at = left.at;
            low = left.low;
            coming = stays_coming main main _ main_off left.coming;
          })

  pub shell_on : IsUnderWay start c after
  shell_on = record {
    main_part = w.main_part;
    main_is = step.others main (λ same. main_off (same ∙ report.to)) ∙ w.main_is;
    master = w.master;
    stage = stages w.stage;
    shell = subst (ShellHas (IsClient start)) (sym after_is) told.is_client;
    told = inr answered;
    epochs = λ place low.
        stays_true start c before after w step (HasMember c) (none_of (HasMember c) (λ p none. none))
        (host_in place false) (w.epochs place low);
    rows = λ place low.
        stays_true start c before after w step HasRows (none_of HasRows (λ p none. none)) (host_in place true)
        (w.rows place low);
    letters =
        letters_on start c before after w step committed
        (λ one is. absurd (subst (IsIn one) told.sends is));
  }
    where
      stages : ((stage : Stage) × IsAt start c stage before s) ⊎ IsOver start c before s
          → ((stage : Stage) × IsAt start c stage after s) ⊎ IsOver start c after s
      stages (inl under) = inl (under.0, stage_on under.0 under.1)
      stages (inr over) = inr (over_on over)
