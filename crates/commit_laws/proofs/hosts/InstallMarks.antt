-- A step of a host marks the views that it installs, and no others.
use Rattle.std.proofs.Common.{◌≡◌, ◌⊎◌, ◌||◌, ◌++◌, ℕ, zero, suc, Bool, true, false, nat_lt, List, [], ◌∷◌, refl, ap}
use Rattle.std.proofs.Common.{sym, subst, ◌∙◌, inl, inr}
use Rattle.std.proofs.lemmas.Bool.{true≢false}
use Rattle.std.specs.Prelude.{if◌then◌else◌, not, Option, None, Some}
use Rattle.run_theory.specs.Lists.{Each, IsIn}
use Rattle.run_theory.proofs.Pasts.{each_in, in_append, each_map}
use Rattle.node_views.proofs.WordWalk.{parts_speak}
use Rattle.node_views.specs.Words.{parts_marks}
use Rattle.commit_laws.proofs.hosts.Words.{OfKind}
use Rattle.sig_core.specs.declared.mark.Mark.{Mark}
use Rattle.sig_core.specs.declared.mark.Mark.TheVariants.{Installed}
use Rattle.sig_core.specs.declared.member.HostId.{HostId}
use Rattle.sig_core.specs.declared.member.Member.{Member}
use Rattle.sig_core.specs.declared.outcome.StopCause.{StopCause}
use Rattle.sig_core.specs.declared.place.BlockId.{BlockId}
use Rattle.sig_core.specs.declared.place.BlockId.TheVariants as block
use Rattle.sig_core.specs.declared.signal.Body.{Body}
use Rattle.sig_core.specs.declared.signal.Body.TheVariants.{Host}
use Rattle.sig_core.specs.declared.signal.Signal.{Signal}
use Rattle.sig_core.specs.declared.signal.host.HostSignal.TheVariants.{Closed, Cut, Kill}
use Rattle.sig_core.specs.declared.view.View.{View}
use Rattle.sig_core.specs.Step.{Effects, Step}
use Rattle.api_views.specs.Members.{same_member}
use Rattle.gcp_master.specs.Master.{master_row}
use Rattle.node_views.specs.Blocks.{parts_entered, parts_row, settled_at}
use Rattle.node_views.specs.declared.host_body.HostBody as hosts
use Rattle.node_views.specs.declared.main_part.MainPart.{MainPart}
use Rattle.node_views.specs.declared.parts.Parts.{Parts}
use Rattle.node_views.specs.declared.parts.Parts.TheVariants.{Ldm, Main, Shell, Tc}
use Rattle.node_views.specs.Parts.{main_row, main_settled}
use Rattle.qmgr_block.proofs.Settles.{marked_settles}
use Rattle.qmgr_block.specs.Settle.{may_settle, qmgr_settles}
use Rattle.node_views.specs.Row.{blocks_row, closed_if, counted_row, cut_if, entered, entering_if, headed_if}
use Rattle.node_views.specs.Row.{headed_row, host_row, host_table, is_barred, is_cut, is_excluded, killed_after}
use Rattle.node_views.specs.Row.{passed_if, passed_row, settle, standing_at, taken_if, with_parts}
use Rattle.node_views.specs.WellFormed.{is_first, is_well_formed}
use Rattle.qmgr_block.specs.declared.known.Proposal.{Proposal}
use Rattle.qmgr_block.specs.Decide.{confirmed_all, confirmed_one, heard, needs_no_grant}
use Rattle.qmgr_block.specs.Laws.{Event, installs}
use Rattle.qmgr_block.specs.Qmgr.{qmgr_row}
use Rattle.qmgr_block.specs.State.{QmgrState}
use Rattle.world_views.specs.Machine.{own_stop, step_by, step_if}
use Rattle.view_laws.specs.HostEvents.{block_events, counted_events, entering_events, events_at, events_by}
use Rattle.view_laws.specs.HostEvents.{headed_events, installing, is_handled, passed_events, sound_events, taking}
use Rattle.view_laws.proofs.eras.Parts.{entered_bare}
use Rattle.view_laws.proofs.follow.Memberships.{settles_on}
use Rattle.view_laws.proofs.ballots.MadeSets.{in_either, in_front}
use Rattle.view_laws.proofs.memberships.Outstanding.{Does, does_answer, does_hear, does_propose, does_rest, does_settle}
use Rattle.view_laws.proofs.memberships.Outstanding.{is_settling, table_does}
use Rattle.gcp_master.specs.Words.{is_master_mark}
use Rattle.gcp_master.proofs.Walk.{master_words}
use Rattle.step_forms.specs.Does.{IsAmong}

abbrev is_installation : Mark → Bool
is_installation (Installed view) = true
is_installation mark = false

abbrev InstallsNone : Mark → Type 0
InstallsNone mark = is_installation mark ≡ false

none_installed : (marks : List Mark) → Each InstallsNone marks → (view : View) → IsIn (Installed view) marks → ⊥
none_installed marks none view there = true≢false (each_in InstallsNone (Installed view) marks none there)

-- the mark of a view is of no other
pub one_mark : (set view : View) → Installed view ≡ Installed set → view ≡ set
one_mark set view same = cc (same)

one_event : (set view : View) → installs view ≡ installs set → view ≡ set
one_event set view same = cc (same)

one_installed : (set view : View) → IsIn (Installed view) (Installed set ∷ []) → view ≡ set
one_installed set view (inl same) = one_mark set view same
one_installed set view (inr none) = absurd none

-- nobody but a main part marks one
abbrev IsNoMain : Parts → Type 0
IsNoMain parts = OfKind (Unit {0}) ⊥ (Unit {0}) (Unit {0}) parts

plain_mark : (parts : Parts) → IsNoMain parts → (mark : Mark) → parts_marks parts mark ≡ true → InstallsNone mark
plain_mark (Main p) other mark is = absurd other
plain_mark (Shell p) other (Installed view) is = absurd (true≢false (sym is))
plain_mark (Tc p) other (Installed view) is = absurd (true≢false (sym is))
plain_mark (Ldm p) other (Installed view) is = absurd (true≢false (sym is))
plain_mark parts other mark is = refl

others_install_none : (parts : Parts) → IsNoMain parts → (x : Signal)
    → Each InstallsNone (parts_row parts x).effects.marks
others_install_none parts other x =
    each_map (IsAmong (parts_marks parts)) InstallsNone (parts_row parts x).effects.marks (plain_mark parts other)
    (parts_speak parts x).1

master_installs : (p : MainPart) (x : Signal) → Each InstallsNone (master_row p.master x).effects.marks
master_installs p x =
    each_map (IsAmong is_master_mark) InstallsNone (master_row p.master x).effects.marks none
    (master_words p.master x).1
  where
    none : (mark : Mark) → is_master_mark mark ≡ true → is_installation mark ≡ false
    none (Installed view) is = absurd (true≢false (sym is))
    none mark is = refl

-- a membership installs what it settles on
module _ (q : QmgrState) (x : Signal) where
  abbrev marks_of : List Mark
  marks_of = (qmgr_row q x).effects.marks

  settles_so : may_settle x.body ≡ true → (view : View) → marks_of ≡ Installed view ∷ []
      → qmgr_settles q x ≡ Some view
  settles_so = marked_settles q x

  all_marks : (p : Proposal) (free : Bool) (view : View)
      → IsIn (Installed view) (confirmed_all q.known p free).effects.marks
      → (confirmed_all q.known p free).effects.marks ≡ Installed view ∷ []
  all_marks p true view there = ap (λ (v : View). Installed v ∷ []) (sym (one_installed p.view view there))
  all_marks p false view there = absurd there

  last_marks : (p : Proposal) (awaited : List Member) (view : View)
      → IsIn (Installed view) (confirmed_one q.known p awaited).effects.marks
      → (confirmed_one q.known p awaited).effects.marks ≡ Installed view ∷ []
  last_marks p [] view there = all_marks p (needs_no_grant q.known p) view there
  last_marks p (member ∷ members) view there = absurd there

  unsettled : (view : View) → Each (λ mark. is_settling mark ≡ false) marks_of → IsIn (Installed view) marks_of → ⊥
  unsettled view none there =
      true≢false (each_in (λ (mark : Mark). is_settling mark ≡ false) (Installed view) marks_of none there)

  does_so : (view : View) → Does q x.member x.body (qmgr_row q x).state.known (qmgr_row q x).effects
      → IsIn (Installed view) marks_of → qmgr_settles q x ≡ Some view
  does_so view (does_rest rests) there = absurd (unsettled view rests.marks there)
  does_so view (does_propose one) there = absurd (unsettled view one.marks there)
  does_so view (does_hear h) there =
      settles_so (ap may_settle h.says) view
      (ap (λ (effects : Effects). effects.marks) h.effects_are
      ∙ last_marks (heard h.p x.member) (heard h.p x.member).awaited view
      (subst (λ (effects : Effects). IsIn (Installed view) effects.marks) h.effects_are there))
  does_so view (does_settle g) there =
      let marks : marks_of ≡ Installed g.p.view ∷ [] = ap (λ (effects : Effects). effects.marks) g.effects_are in
      settles_so (ap may_settle g.says) view
      (marks
      ∙ ap (λ (v : View). Installed v ∷ [])
      (sym (one_installed g.p.view view (subst (IsIn (Installed view)) marks there))))
  does_so view (does_answer answers) there =
      absurd (unsettled view
      (subst (λ (effects : Effects). Each (λ mark. is_settling mark ≡ false) effects.marks) (sym answers.effects_are)
      (refl, tt))
      there)

  membership_settles : (view : View) → IsIn (Installed view) marks_of → qmgr_settles q x ≡ Some view
  membership_settles view there =
      does_so view (table_does q x.member x.from.0 x.view.number x.body) there

-- the marks of blocks tell where they settle
record Settle (parts : Parts) (x : Signal) : Type 0 where
  forth : (view : View) → IsIn (Installed view) (parts_row parts x).effects.marks → settled_at parts x ≡ Some view
  back : (view : View) → settled_at parts x ≡ Some view → IsIn (Installed view) (parts_row parts x).effects.marks

main_settle : (p : MainPart) (x : Signal) → Settle (Main p) x
unfolding main_row
main_settle p x = record { forth = forth x.to.block; back = back x.to.block }
  where
    forth : (b : BlockId) (view : View) → IsIn (Installed view) (main_row p b x).effects.marks
        → main_settled p b x ≡ Some view
    forth block.Qmgr view there = membership_settles p.qmgr x view there
    forth block.GcpMaster view there =
        absurd (none_installed (master_row p.master x).effects.marks (master_installs p x) view there)
    forth _ view there = absurd there

    back : (b : BlockId) (view : View) → main_settled p b x ≡ Some view
        → IsIn (Installed view) (main_row p b x).effects.marks
    back block.Qmgr view is =
        subst (IsIn (Installed view)) (sym (settles_on p.qmgr x view is).marks) (inl refl)
    back _ view is = absurd cc

others_settle : (parts : Parts) → IsNoMain parts → (x : Signal) → settled_at parts x ≡ None → Settle parts x
others_settle parts other x none = record {
  forth = λ view there. absurd (none_installed _ (others_install_none parts other x) view there);
  back = λ view is. absurd (let both : None ≡ Some view = sym none ∙ is in cc);
}

parts_settle : (parts : Parts) (x : Signal) → Settle parts x
parts_settle (Main p) x = main_settle p x
parts_settle (Shell p) x = others_settle (Shell p) tt x refl
parts_settle (Tc p) x = others_settle (Tc p) tt x refl
parts_settle (Ldm p) x = others_settle (Ldm p) tt x refl

-- A step marks the views that these events install.
pub record Tells (t : Step hosts.HostBody) (events : List Event) : Type 0 where
  pub forth : (view : View) → IsIn (Installed view) t.effects.marks → IsIn (installs view) events
  pub back : (view : View) → IsIn (installs view) events → IsIn (Installed view) t.effects.marks

module _ (mine : BlockId → Bool) (x : Signal) where
  none_taken : (b : Bool) (view : View) → IsIn (installs view) (taking mine x b) → ⊥
  none_taken true view (inl same) = absurd cc
  none_taken true view (inr none) = none
  none_taken false view none = none

  nothing : (t : Step hosts.HostBody) → Each InstallsNone t.effects.marks → Tells t []
  nothing t none = record {
    forth = λ view there. absurd (none_installed t.effects.marks none view there);
    back = λ view there. absurd there;
  }

  settle_tells : (s : hosts.HostBody) (o : Option View) → settled_at s.parts x ≡ o
      → Tells (settle (with_parts s (parts_row s.parts x)) o) (installing mine o ++ taking mine x (mine x.to.block))
  unfolding entered
  settle_tells s None is = record {
    forth = λ view there. absurd (none_some view (sym is ∙ (parts_settle s.parts x).forth view there));
    back = λ view there. absurd (none_taken (mine x.to.block) view there);
  }
    where
      none_some : (view : View) → None ≡ Some view → ⊥
      none_some view is = absurd cc
  settle_tells s (Some set) is = record { forth = forth; back = back }
    where
      row : List Mark
      row = (parts_row s.parts x).effects.marks

      bare : (parts_entered (parts_row s.parts x).state set).effects.marks ≡ []
      bare = entered_bare (parts_row s.parts x).state set

      same_view : (view : View) → Some set ≡ Some view → view ≡ set
      same_view view same = cc (same)

      forth : (view : View)
          → IsIn (Installed view) (row ++ (parts_entered (parts_row s.parts x).state set).effects.marks)
          → IsIn (installs view) (installs set ∷ taking mine x (mine x.to.block))
      forth view there =
          by (in_either (Installed view) row (parts_entered (parts_row s.parts x).state set).effects.marks there)
        where
          by : IsIn (Installed view) row
              ⊎ IsIn (Installed view) (parts_entered (parts_row s.parts x).state set).effects.marks
              → IsIn (installs view) (installs set ∷ taking mine x (mine x.to.block))
          by (inl own) = inl (ap installs (same_view view (sym is ∙ (parts_settle s.parts x).forth view own)))
          by (inr none) = absurd (subst (IsIn (Installed view)) bare none)

      back : (view : View) → IsIn (installs view) (installs set ∷ taking mine x (mine x.to.block))
          → IsIn (Installed view) (row ++ (parts_entered (parts_row s.parts x).state set).effects.marks)
      back view (inl same) =
          in_front (Installed view) row (parts_entered (parts_row s.parts x).state set).effects.marks
          ((parts_settle s.parts x).back view (is ∙ ap Some (sym (one_event set view same))))
      back view (inr none) = absurd (none_taken (mine x.to.block) view none)

  blocks_tell : (s : hosts.HostBody) → Tells (blocks_row s x) (block_events mine s x)
  unfolding blocks_row
  blocks_tell s = settle_tells s (settled_at s.parts x) refl

  cut_tells : (s : hosts.HostBody) (first : HostId) (cut : Bool) → Tells (cut_if s first cut) []
  cut_tells s first true = nothing _ tt
  cut_tells s first false = nothing _ (refl, (refl, (refl, tt)))

  closed_tells : (s : hosts.HostBody) (own : Bool)
      → Tells (closed_if s x own) (if not own then block_events mine s x else [])
  closed_tells s true = nothing _ (refl, tt)
  closed_tells s false = blocks_tell s

  table_tells : (s : hosts.HostBody) (body : Body)
      → Tells (host_table s x body) (if not (is_handled s x body) then block_events mine s x else [])
  table_tells s (Host (Kill zero)) = nothing _ (refl, tt)
  table_tells s (Host (Kill (suc left))) = nothing _ tt
  table_tells s (Host (Cut node first)) = cut_tells s first (is_cut s.standing first || not (is_first first))
  table_tells s (Host (Closed cause)) = closed_tells s (same_member s.standing.member x.member)
  table_tells s _ = blocks_tell s

  passed_if_tells : (s : hosts.HostBody) (barred : Bool)
      → Tells (passed_if s x barred) (if not (barred || is_handled s x x.body) then block_events mine s x else [])
  passed_if_tells s true = nothing _ tt
  passed_if_tells s false = table_tells s x.body

  passed_tells : (s : hosts.HostBody) → Tells (passed_row s x) (passed_events mine s x)
  unfolding passed_row
  passed_tells s = passed_if_tells s (is_barred s x)

  entering_tells : (s : hosts.HostBody) (excluded : Bool)
      → Tells (entering_if s x excluded) (if excluded then [] else entering_events mine s x)
  unfolding entered
  entering_tells s true = nothing _ (refl, tt)
  entering_tells s false = record { forth = forth; back = back }
    where
      inside : hosts.HostBody
      inside = (entered s x.view).state

      behind : Tells (passed_row inside x) (passed_events mine inside x)
      behind = passed_tells inside

      later : List Mark
      later = (passed_row inside x).effects.marks

      own : List Mark
      own = (parts_entered s.parts x.view).effects.marks

      bare : own ≡ []
      bare = entered_bare s.parts x.view

      forth : (view : View) → IsIn (Installed view) (Installed x.view ∷ (own ++ later))
          → IsIn (installs view) (passed_events mine inside x ++ installs x.view ∷ [])
      forth view (inl same) =
          in_append (installs view) (passed_events mine inside x) (installs x.view ∷ [])
          (inl (ap installs (one_mark x.view view same)))
      forth view (inr there) =
          in_front (installs view) (passed_events mine inside x) (installs x.view ∷ [])
          (behind.forth view (subst (λ marks. IsIn (Installed view) (marks ++ later)) bare there))

      back : (view : View) → IsIn (installs view) (passed_events mine inside x ++ installs x.view ∷ [])
          → IsIn (Installed view) (Installed x.view ∷ (own ++ later))
      back view there =
          by (in_either (installs view) (passed_events mine inside x) (installs x.view ∷ []) there)
        where
          by : IsIn (installs view) (passed_events mine inside x) ⊎ IsIn (installs view) (installs x.view ∷ [])
              → IsIn (Installed view) (Installed x.view ∷ (own ++ later))
          by (inl one) =
              inr (subst (λ marks. IsIn (Installed view) (marks ++ later)) (sym bare) (behind.back view one))
          by (inr (inl same)) = inl (ap Installed (one_event x.view view same))
          by (inr (inr none)) = absurd none

  headed_if_tells : (s : hosts.HostBody) (newer : Bool)
      → Tells (headed_if s x newer)
      (if newer
      then (if is_excluded s.standing x.view then [] else entering_events mine s x)
      else passed_events mine s x)
  headed_if_tells s true = entering_tells s (is_excluded s.standing x.view)
  headed_if_tells s false = passed_tells s

  headed_tells : (s : hosts.HostBody) → Tells (headed_row s x) (headed_events mine s x)
  unfolding headed_row
  headed_tells s = headed_if_tells s (nat_lt s.standing.view.number x.view.number)

  counted_tells : (s : hosts.HostBody) (left : Option ℕ) → Tells (counted_row s x left) (counted_events mine s x left)
  counted_tells s None = headed_tells s
  counted_tells s (Some zero) = nothing _ (refl, tt)
  counted_tells s (Some (suc zero)) = nothing _ (refl, tt)
  counted_tells s (Some (suc (suc left))) =
      headed_tells (standing_at s (killed_after s.standing (Some (suc left))))

  taken_tells : (s : hosts.HostBody) (sound : Bool) → Tells (taken_if s x sound) (sound_events mine s x sound)
  taken_tells s true =
      let tells = counted_tells s s.standing.left in record { forth = tells.forth; back = tells.back }
  taken_tells s false = nothing _ tt

  row_tells : (s : hosts.HostBody) → Tells (host_row s x) (sound_events mine s x (is_well_formed s.standing.shape x))
  unfolding host_row
  row_tells s = taken_tells s (is_well_formed s.standing.shape x)

  by_tells : (s : hosts.HostBody) (cause : Option StopCause) → Tells (step_if s x cause) (events_by mine s x cause)
  by_tells s (Some cause) = nothing _ (refl, tt)
  by_tells s None = row_tells s

  pub step_tells : (h : ℕ) (s : hosts.HostBody) → Tells (step_by h s x) (events_at mine h s x)
  step_tells h s = by_tells s (own_stop h x)
