-- The copying sends nothing but its own words, signal by signal.
use Rattle.std.proofs.Common.{◌==◌, ℕ, zero, suc, Bool, true, false, List, [], ◌∷◌, ◌+◌, length, nat_lt, refl}
use Rattle.std.specs.List.{list_any}
use Rattle.std.specs.Prelude.{Option, None, Some, slice_get}
use Rattle.run_theory.specs.Lists.{Each}
use Rattle.run_theory.proofs.Pasts.{each_append}
use Rattle.sig_core.specs.declared.member.Member.{Member}
use Rattle.sig_core.specs.declared.signal.Body.{Body}
use Rattle.sig_core.specs.declared.signal.Body.TheVariants.{Copying, Epoch, Host, Joining}
use Rattle.sig_core.specs.declared.signal.copying.CopyingSignal.TheVariants.{CopyFragConf, CopyFragReq, CopyKeyConf}
use Rattle.sig_core.specs.declared.signal.copying.CopyingSignal.TheVariants.{CopyKeyRef, CopyRowConf, LqhScanConf}
use Rattle.sig_core.specs.declared.signal.epoch.EpochSignal.TheVariants.{GcpRep}
use Rattle.sig_core.specs.declared.signal.host.HostSignal.TheVariants.{Continue}
use Rattle.sig_core.specs.declared.signal.host.Work.TheVariants.{Members}
use Rattle.sig_core.specs.declared.signal.host.Work.TheVariants as work
use Rattle.sig_core.specs.declared.signal.joining.JoiningSignal.TheVariants.{CopyOrd, CopySaveConf, DrainConf}
use Rattle.sig_core.specs.declared.signal.joining.JoiningSignal.TheVariants.{DrainWait}
use Rattle.sig_core.specs.Place.{copying}
use Rattle.sig_core.specs.Step.{Step, sends_only}
use Rattle.step_forms.specs.Does.{IsWord, Speaks}
use Rattle.step_forms.proofs.ListLemmas.{flat_in}
use Rattle.step_forms.proofs.PortionLemmas.{portion_each}
use Rattle.frag_map.specs.Layout.{Layout}
use Rattle.frag_map.specs.Replicas.{is_member, replicas_of}
use Rattle.copy_block.specs.declared.stage.Feed.{Feed}
use Rattle.copy_block.specs.declared.stage.Feed.TheVariants.{Idle, Scanning, Naming, Sending}
use Rattle.copy_block.specs.declared.stage.Joiner.{Joiner}
use Rattle.copy_block.specs.declared.stage.Stage.{Stage}
use Rattle.copy_block.specs.declared.stage.Stage.TheVariants.{Resting, FirstCheckpoint, Draining, Fragments, Saving}
use Rattle.copy_block.specs.declared.stage.Stage.TheVariants.{LastCheckpoint}
use Rattle.copy_block.specs.declared.stage.Task.{Task}
use Rattle.copy_block.specs.Copying.{copy_table}
use Rattle.copy_block.specs.Feeding.{ending, fragment_by, fragment_row, going, going_by, hands_by, hands_if, has_own}
use Rattle.copy_block.specs.Feeding.{named_by, named_row, next_by, passing, refused_by, refused_row, scan_by, scan_row}
use Rattle.copy_block.specs.Feeding.{after, taken_by, taken_row, told_copied}
use Rattle.copy_block.specs.Joinings.{closed_by, closed_row, copied_by, copied_if, copied_row, copying_if, drained_by}
use Rattle.copy_block.specs.Joinings.{drained_from, drained_if, drained_row, draining, draining_if, go_on_by, go_on_row}
use Rattle.copy_block.specs.Joinings.{is_left, order_by, order_row, requesting, saved_by, saved_if, saved_row}
use Rattle.copy_block.specs.Sends.{drain_if, drain_of, drain_sends, is_beside, request_along, request_effects}
use Rattle.copy_block.specs.Sends.{request_if, request_of, request_sends, requests_from, is_full_beside}
use Rattle.copy_block.specs.State.{CopyState}
use Rattle.copy_block.specs.Words.{CopyKeepsToItsWords, is_copy_mark, is_copy_word}

-- the step sends its words alone, and marks nothing
abbrev pub Speak : Step CopyState → Type 0
Speak step = Speaks is_copy_word is_copy_mark step

drains : (layout : Layout) (joining : Member) → Each (IsWord is_copy_word) (drain_sends layout joining)
unfolding drain_sends drain_of
drains layout joining =
    flat_in (IsWord is_copy_word) (drain_of layout joining) layout.view.full
    (λ member there. by member (is_beside layout joining member))
  where
    by : (member : Member) (b : Bool) → Each (IsWord is_copy_word) (drain_if member b)
    by member true = (refl, tt)
    by member false = tt

requests : (layout : Layout) (joiner : Joiner) (n fragment : ℕ)
    → Each (IsWord is_copy_word) (requests_from layout joiner fragment n)
unfolding request_along
requests layout joiner zero fragment = tt
requests layout joiner (suc n) fragment =
    each_append (IsWord is_copy_word) (request_of layout joiner fragment) (requests_from layout joiner (fragment + 1) n)
    (along (replicas_of layout.shape layout.view fragment)) (requests layout joiner n (fragment + 1))
  where
    by : (chain : List Member) (b : Bool) → Each (IsWord is_copy_word) (request_if joiner fragment chain b)
    by chain true = (refl, tt)
    by chain false = tt

    along : (chain : List Member) → Each (IsWord is_copy_word) (request_along joiner fragment chain)
    along chain = by chain (list_any (is_member joiner.member) chain)

listed : (node : ℕ) (layout : Layout) (joiner : Joiner) (at : ℕ)
    → Each (IsWord is_copy_word) (request_effects node layout joiner at).sends
unfolding request_effects request_sends
listed node layout joiner at =
    portion_each (IsWord is_copy_word) (copying node) work.Members (request_sends layout joiner) at (λ left. refl)
    (requests layout joiner layout.shape.fragments 0)

module _ (s : CopyState) where
  orders : (member : Member) (own : Option ℕ) → Speak (order_row s member own)
  unfolding order_row
  orders member own = by (record { member = member; own = own }) s.stage
    where
      by : (joiner : Joiner) (stage : Stage) → Speak (order_by s joiner stage)
      by joiner Resting = ((refl, tt), tt)
      by joiner _ = (tt, tt)

  asks : (joiner : Joiner) → Speak (requesting s joiner)
  unfolding requesting request_effects
  asks joiner = by (length (request_sends s.layout joiner)) (length (request_sends s.layout joiner) == 0)
    where
      by : (n : ℕ) (b : Bool) → Speak (copying_if s joiner n b)
      by n true = ((refl, tt), tt)
      by n false = (listed s.node s.layout joiner 0, tt)

  closes : Speak (closed_row s)
  unfolding closed_row draining
  closes = by s.stage
    where
      drains_if : (joiner : Joiner) (n : ℕ) (b : Bool) → Speak (draining_if s joiner n b)
      drains_if joiner n true = asks joiner
      drains_if joiner n false = (drains s.layout joiner.member, tt)

      by : (stage : Stage) → Speak (closed_by s stage)
      by (FirstCheckpoint joiner) =
          drains_if joiner (length (drain_sends s.layout joiner.member))
          (length (drain_sends s.layout joiner.member) == 0)
      by (LastCheckpoint joiner) = ((refl, tt), tt)
      by _ = (tt, tt)

  drained : (from : Member) → Speak (drained_row s from)
  unfolding drained_row
  drained from = by s.stage
    where
      by_count : (joiner : Joiner) (n : ℕ) (b : Bool) → Speak (drained_if s joiner n b)
      by_count joiner n true = (tt, tt)
      by_count joiner n false = asks joiner

      by_from : (joiner : Joiner) (n : ℕ) (b : Bool) → Speak (drained_from s joiner n b)
      by_from joiner n true = by_count joiner n (nat_lt 1 n)
      by_from joiner n false = (tt, tt)

      by : (stage : Stage) → Speak (drained_by s from stage)
      by (Draining joiner n) = by_from joiner n (is_full_beside s.layout joiner.member from)
      by _ = (tt, tt)

  goes_on : (at : ℕ) → Speak (go_on_row s at)
  unfolding go_on_row request_effects
  goes_on at = by (is_left s at) s.stage
    where
      by : (b : Bool) (stage : Stage) → Speak (go_on_by s at b stage)
      by true (Fragments joiner n) = (listed s.node s.layout joiner at, tt)
      by _ _ = (tt, tt)

  copied : Speak (copied_row s)
  unfolding copied_row
  copied = by s.stage
    where
      by_count : (joiner : Joiner) (n : ℕ) (b : Bool) → Speak (copied_if s joiner n b)
      by_count joiner n true = (tt, tt)
      by_count joiner n false = ((refl, tt), tt)

      by : (stage : Stage) → Speak (copied_by s stage)
      by (Fragments joiner n) = by_count joiner n (nat_lt 1 n)
      by _ = (tt, tt)

  saved : (from : Member) → Speak (saved_row s from)
  unfolding saved_row
  saved from = by s.stage
    where
      by_from : (joiner : Joiner) (b : Bool) → Speak (saved_if s joiner b)
      by_from joiner true = ((refl, tt), tt)
      by_from joiner false = (tt, tt)

      by : (stage : Stage) → Speak (saved_by s from stage)
      by (Saving joiner) = by_from joiner (is_member from joiner.member)
      by _ = (tt, tt)

  takes : (task : Task) → Speak (fragment_row s task)
  unfolding fragment_row
  takes task = by s.feed
    where
      by : (feed : Feed) → Speak (fragment_by s task feed)
      by Idle = ((refl, tt), tt)
      by _ = (tt, tt)

  ends : (task : Task) → Speak (ending s task)
  unfolding ending
  ends task = by (slice_get s.queue 0)
    where
      by : (next : Option Task) → Speak (after (sends_only (told_copied task ∷ [])) (next_by s next))
      by None = ((refl, tt), tt)
      by (Some next) = ((refl, (refl, tt)), tt)

  goes : (task : Task) (next : Option ℕ) → Speak (going s task next)
  unfolding going
  goes task next = by next
    where
      by : (next : Option ℕ) → Speak (going_by s task next)
      by (Some at) = ((refl, tt), tt)
      by None = ends task

  passes : (task : Task) (key : List ℕ) (next : Option ℕ) → Speak (passing s task key next)
  unfolding passing
  passes task key next = ((refl, (goes task next).0), (goes task next).1)

  scanned : (row : Option (List ℕ × List ℕ)) (epoch : ℕ) (next : Option ℕ) → Speak (scan_row s row epoch next)
  unfolding scan_row
  scanned row epoch next = by s.feed
    where
      hands : (task : Task) (row : List ℕ × List ℕ) (b : Bool) → Speak (hands_if s task row epoch next b)
      hands task row true = ((refl, tt), tt)
      hands task row false = ((refl, tt), tt)

      by_row : (task : Task) (row : Option (List ℕ × List ℕ)) → Speak (hands_by s task row epoch next)
      by_row task None = goes task next
      by_row task (Some row) = hands task row (has_own task.joiner.own epoch)

      by : (feed : Feed) → Speak (scan_by s row epoch next feed)
      by (Scanning task) = by_row task row
      by _ = (tt, tt)

  taken : Speak (taken_row s)
  unfolding taken_row
  taken = by s.feed
    where
      by : (feed : Feed) → Speak (taken_by s feed)
      by (Sending task key next) = passes task key next
      by _ = (tt, tt)

  named : Speak (named_row s)
  unfolding named_row
  named = by s.feed
    where
      by : (feed : Feed) → Speak (named_by s feed)
      by (Naming task row epoch next) = passes task row.0 next
      by _ = (tt, tt)

  refused : Speak (refused_row s)
  unfolding refused_row
  refused = by s.feed
    where
      by : (feed : Feed) → Speak (refused_by s feed)
      by (Naming task row epoch next) = ((refl, tt), tt)
      by _ = (tt, tt)

  by_table : (from : Member) (body : Body) → Speak (copy_table s from body)
  by_table from (Joining (CopyOrd member own)) = orders member own
  by_table from (Joining DrainConf) = drained from
  by_table from (Joining (DrainWait tx)) = ((refl, tt), tt)
  by_table from (Joining CopySaveConf) = saved from
  by_table from (Joining _) = (tt, tt)
  by_table from (Copying (CopyFragReq member fragment own)) =
      takes
      (record { from = from.node; joiner = record { member = member; own = own }; fragment = fragment })
  by_table from (Copying CopyFragConf) = copied
  by_table from (Copying (LqhScanConf row epoch next)) = scanned row epoch next
  by_table from (Copying CopyRowConf) = taken
  by_table from (Copying CopyKeyConf) = named
  by_table from (Copying CopyKeyRef) = refused
  by_table from (Copying _) = (tt, tt)
  by_table from (Epoch (GcpRep epoch)) = closes
  by_table from (Host (Continue Members at)) = goes_on at
  by_table from _ = (tt, tt)

-- whatever it takes, and whatever view is installed
pub copy_words : CopyKeepsToItsWords
copy_words = record { takes = λ s x. by_table s x.member x.body; installs = λ s view. (tt, tt) }
