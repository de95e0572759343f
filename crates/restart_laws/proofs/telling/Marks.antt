-- A host whose blocks don't stop it isn't stopped by its disk, unless it asked itself for it.
use Rattle.std.proofs.Common.{◌≡◌, ◌||◌, ℕ, zero, suc, Bool, true, false, nat_lt, List, [], ◌∷◌, refl, sym, ap, subst}
use Rattle.std.proofs.Common.{◌∙◌}
use Rattle.std.proofs.lemmas.Bool.{true≢false}
use Rattle.std.specs.List.{list_any}
use Rattle.std.specs.Prelude.{not, Option, None, Some}
use Rattle.run_theory.specs.Lists.{Each}
use Rattle.run_theory.proofs.Pasts.{each_append}
use Rattle.sig_core.specs.declared.mark.Mark.{Mark}
use Rattle.sig_core.specs.declared.mark.Mark.TheVariants.{Stopped}
use Rattle.sig_core.specs.declared.member.HostId.{HostId}
use Rattle.sig_core.specs.declared.outcome.StopCause.{StopCause}
use Rattle.sig_core.specs.declared.outcome.StopCause.TheVariants.{Disk}
use Rattle.sig_core.specs.declared.signal.Body.{Body}
use Rattle.sig_core.specs.declared.signal.Body.TheVariants.{Host}
use Rattle.sig_core.specs.declared.signal.Signal.{Signal}
use Rattle.sig_core.specs.declared.signal.host.HostSignal.TheVariants.{Closed, Cut, Kill}
use Rattle.sig_core.specs.declared.view.View.{View}
use Rattle.sig_core.specs.Step.{Step}
use Rattle.step_forms.specs.Does.{Speaks}
use Rattle.step_forms.proofs.DoesLemmas.{speaks_do}
use Rattle.api_views.specs.Members.{same_member}
use Rattle.node_views.specs.Blocks.{parts_entered, parts_row, settled_at}
use Rattle.node_views.specs.declared.host_body.HostBody as hosts
use Rattle.node_views.specs.declared.parts.Parts.{Parts}
use Rattle.node_views.specs.Row.{blocks_row, closed_if, counted_row, cut_if, entered, entering_if, headed_if}
use Rattle.node_views.specs.Row.{headed_row, host_row, host_table, is_barred, is_cut, is_excluded, kill_row}
use Rattle.node_views.specs.Row.{killed_after, passed_if, passed_row, settle, standing_at, taken_if, with_parts}
use Rattle.node_views.specs.WellFormed.{is_first, is_well_formed}
use Rattle.node_views.specs.Words.{parts_marks, parts_words}
use Rattle.node_views.proofs.WordWalk.{parts_speak, parts_speak_installed, words_stay, words_stay_installed}
use Rattle.world_core.specs.Start.{Start}
use Rattle.world_core.specs.Steps.{HostStep}
use Rattle.world_views.specs.Machine.{FitsRow, after, own_stop, step_if}
use Rattle.disk_laws.specs.Noted.{is_disk_stop}

-- the blocks don't stop their host
abbrev pub StopsNone : Parts → Type 0
StopsNone parts = (cause : StopCause) → parts_marks parts (Stopped cause) ≡ false

-- the mark isn't that of a host whose disk failed
abbrev IsNoFailure : Mark → Type 0
IsNoFailure mark = (count : ℕ) → mark ≡ Stopped (Disk count) → ⊥

abbrev FailsNot : {S : Type 0} → Step S → Type 0
FailsNot t = Each IsNoFailure t.effects.marks

spoken : {S : Type 0} (parts : Parts) (step : Step S) → StopsNone parts
    → Speaks (parts_words parts) (parts_marks parts) step
    → FailsNot step
spoken parts step none speaks =
    (speaks_do (parts_words parts) (parts_marks parts) (λ (body : Body). Unit {0}) IsNoFailure step (λ body is. tt)
    (λ mark is count same.
    true≢false (sym (subst (λ m. parts_marks parts m ≡ true) same is) ∙ none (Disk count))) speaks).1

enters_well : (s : hosts.HostBody) (view : View) → StopsNone s.parts → FailsNot (entered s view)
unfolding entered
enters_well s view none = spoken s.parts (parts_entered s.parts view) none (parts_speak_installed s.parts view)

stays_none : (s : hosts.HostBody) (view : View) → StopsNone s.parts → StopsNone (entered s view).state.parts
unfolding entered
stays_none s view none cause = (words_stay_installed s.parts view).1 (Stopped cause) ∙ none cause

blocks_go : (s : hosts.HostBody) (x : Signal) → StopsNone s.parts → FailsNot (blocks_row s x)
unfolding blocks_row
blocks_go s x none = by (settled_at s.parts x)
  where
    t : Step hosts.HostBody
    t = with_parts s (parts_row s.parts x)

    row : FailsNot t
    row = spoken s.parts (parts_row s.parts x) none (parts_speak s.parts x)

    by : (view : Option View) → FailsNot (settle t view)
    by None = row
    by (Some view) =
        each_append IsNoFailure t.effects.marks (entered t.state view).effects.marks row
        (enters_well t.state view (λ cause. (words_stay s.parts x).1 (Stopped cause) ∙ none cause))

killed_well : (s : hosts.HostBody) (after : ℕ) → FailsNot (kill_row s after)
killed_well s zero = (λ count same. cc, tt)
killed_well s (suc after) = tt

cut_well : (s : hosts.HostBody) (first : HostId) (cut : Bool) → FailsNot (cut_if s first cut)
cut_well s first true = tt
cut_well s first false = (λ count same. cc, (λ count same. cc, (λ count same. cc, tt)))

closed_well : (s : hosts.HostBody) (x : Signal) (own : Bool) → StopsNone s.parts → FailsNot (closed_if s x own)
closed_well s x true none = (λ count same. cc, tt)
closed_well s x false none = blocks_go s x none

table_goes : (s : hosts.HostBody) (x : Signal) (body : Body) → StopsNone s.parts → FailsNot (host_table s x body)
table_goes s x (Host (Kill after)) none = killed_well s after
table_goes s x (Host (Cut node first)) none = cut_well s first (is_cut s.standing first || not (is_first first))
table_goes s x (Host (Closed cause)) none = closed_well s x (same_member s.standing.member x.member) none
table_goes s x body none = blocks_go s x none

passed_well : (s : hosts.HostBody) (x : Signal) → StopsNone s.parts → FailsNot (passed_row s x)
unfolding passed_row
passed_well s x none = by (is_barred s x)
  where
    by : (barred : Bool) → FailsNot (passed_if s x barred)
    by true = tt
    by false = table_goes s x x.body none

entering_well : (s : hosts.HostBody) (x : Signal) (excluded : Bool) → StopsNone s.parts
    → FailsNot (entering_if s x excluded)
entering_well s x true none = (λ count same. cc, tt)
entering_well s x false none = (
  λ count same. cc,
  each_append IsNoFailure (entered s x.view).effects.marks (passed_row (entered s x.view).state x).effects.marks
      (enters_well s x.view none) (passed_well (entered s x.view).state x (stays_none s x.view none)),
)

headed_well : (s : hosts.HostBody) (x : Signal) → StopsNone s.parts → FailsNot (headed_row s x)
unfolding headed_row
headed_well s x none = by (nat_lt s.standing.view.number x.view.number)
  where
    by : (newer : Bool) → FailsNot (headed_if s x newer)
    by true = entering_well s x (is_excluded s.standing x.view) none
    by false = passed_well s x none

counted_well : (s : hosts.HostBody) (x : Signal) (left : Option ℕ) → StopsNone s.parts
    → FailsNot (counted_row s x left)
counted_well s x None none = headed_well s x none
counted_well s x (Some zero) none = (λ count same. cc, tt)
counted_well s x (Some (suc zero)) none = (λ count same. cc, tt)
counted_well s x (Some (suc (suc left))) none =
    headed_well (standing_at s (killed_after s.standing (Some (suc left)))) x none

row_goes : (s : hosts.HostBody) (x : Signal) → StopsNone s.parts → FailsNot (host_row s x)
unfolding host_row
row_goes s x none = by (is_well_formed s.standing.shape x)
  where
    by : (sound : Bool) → FailsNot (taken_if s x sound)
    by true = counted_well s x s.standing.left none
    by false = tt

-- so no mark of it tells that
none_marked : (marks : List Mark) → Each IsNoFailure marks → list_any is_disk_stop marks ≡ false
none_marked [] all = refl
none_marked (Stopped (Disk count) ∷ marks) all = absurd (all.0 count refl)
none_marked (Stopped cause ∷ marks) all = none_marked marks all.1
none_marked (mark ∷ marks) all = none_marked marks all.1

-- whatever it takes, unless it asks itself to stop since its disk failed
pub steps_fail_not : (start : Start) (h : ℕ) (log : List HostStep) (e : HostStep)
    → StopsNone (after start h log).parts → FitsRow start h log e
    → ((count : ℕ) → own_stop h e.step.taken ≡ Some (Disk count) → ⊥) → list_any is_disk_stop e.step.marks ≡ false
steps_fail_not start h log e none fits unfailed =
    none_marked e.step.marks (subst (Each IsNoFailure) (sym fits.marks) (by (own_stop h e.step.taken) refl))
  where
    by : (o : Option StopCause) → own_stop h e.step.taken ≡ o
        → Each IsNoFailure (step_if (after start h log) e.step.taken o).effects.marks
    by (Some cause) is = (λ count same. unfailed count (is ∙ ap Some (cause_of count same)), tt)
      where
        cause_of : (count : ℕ) → Stopped cause ≡ Stopped (Disk count) → cause ≡ Disk count
        cause_of count same = cc
    by None is = row_goes (after start h log) e.step.taken none
