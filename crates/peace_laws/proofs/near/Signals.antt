-- What stays as it is of a signal where all epochs are made one.
use Rattle.std.proofs.Common.{◌≡◌, ℕ, refl, ap}
use Rattle.std.specs.Prelude.{◌&&◌}
use Rattle.node_core.specs.Requests.{is_request}
use Rattle.node_views.specs.WellFormed.{is_body_sound, is_sender, is_view, is_well_formed}
use Rattle.sig_core.specs.declared.place.BlockId.{BlockId}
use Rattle.sig_core.specs.declared.place.BlockId.TheVariants as block
use Rattle.sig_core.specs.declared.signal.Body.{Body}
use Rattle.sig_core.specs.declared.signal.Body.TheVariants.{Client, Chain, Epoch}
use Rattle.sig_core.specs.declared.signal.Signal.{Signal}
use Rattle.sig_core.specs.declared.signal.chain.ChainSignal.TheVariants.{Commit}
use Rattle.sig_core.specs.declared.signal.client.ClientSignal.TheVariants.{TcCommitConf}
use Rattle.sig_core.specs.declared.signal.epoch.EpochSignal.TheVariants.{DiVerifyConf}
use Rattle.sig_core.specs.declared.view.Shape.{Shape}
use Rattle.world_views.specs.Sending.{is_own_work}
use Rattle.calm_laws.specs.Calm.{has_block, is_calm, is_for}
use Rattle.calm_laws.specs.Known.{txs_in}
use Rattle.level_laws.specs.Levels.{body_at, signal_at}

module _ (epoch : ℕ) where
  -- whether it is a request, or what a host asks of itself
  pub request_level : (body : Body) → is_request (body_at epoch body) ≡ is_request body
  request_level (Client (TcCommitConf tx other)) = refl
  request_level (Chain (Commit tx key other chain at)) = refl
  request_level (Epoch (DiVerifyConf tx other)) = refl
  request_level body = refl

  pub work_level : (body : Body) → is_own_work (body_at epoch body) ≡ is_own_work body
  work_level (Client (TcCommitConf tx other)) = refl
  work_level (Chain (Commit tx key other chain at)) = refl
  work_level (Epoch (DiVerifyConf tx other)) = refl
  work_level body = refl

  -- of which transactions it tells
  pub txs_level : (body : Body) → txs_in (body_at epoch body) ≡ txs_in body
  txs_level (Client (TcCommitConf tx other)) = refl
  txs_level (Chain (Commit tx key other chain at)) = refl
  txs_level (Epoch (DiVerifyConf tx other)) = refl
  txs_level body = refl

  -- whether it is well formed
  sound_level : (shape : Shape) (body : Body) → is_body_sound shape (body_at epoch body) ≡ is_body_sound shape body
  sound_level shape (Client (TcCommitConf tx other)) = refl
  sound_level shape (Chain (Commit tx key other chain at)) = refl
  sound_level shape (Epoch (DiVerifyConf tx other)) = refl
  sound_level shape body = refl

  pub fine_level : (shape : Shape) (x : Signal)
      → is_well_formed shape (signal_at epoch x) ≡ is_well_formed shape x
  unfolding is_well_formed
  fine_level shape x =
      ap (λ b. (is_sender shape x.member && is_view shape x.view) && b) (sound_level shape x.body)

  -- and which host takes it in calm
  for_level : (of : BlockId) (body : Body) → is_for of (body_at epoch body) ≡ is_for of body
  for_level block.Api (Client (TcCommitConf tx other)) = refl
  for_level block.Qmgr (Client (TcCommitConf tx other)) = refl
  for_level block.Tc (Client (TcCommitConf tx other)) = refl
  for_level block.Dih (Client (TcCommitConf tx other)) = refl
  for_level block.Lqh (Client (TcCommitConf tx other)) = refl
  for_level of (Client (TcCommitConf tx other)) = refl
  for_level block.Api (Chain (Commit tx key other chain at)) = refl
  for_level block.Qmgr (Chain (Commit tx key other chain at)) = refl
  for_level block.Tc (Chain (Commit tx key other chain at)) = refl
  for_level block.Dih (Chain (Commit tx key other chain at)) = refl
  for_level block.Lqh (Chain (Commit tx key other chain at)) = refl
  for_level of (Chain (Commit tx key other chain at)) = refl
  for_level block.Api (Epoch (DiVerifyConf tx other)) = refl
  for_level block.Qmgr (Epoch (DiVerifyConf tx other)) = refl
  for_level block.Tc (Epoch (DiVerifyConf tx other)) = refl
  for_level block.Dih (Epoch (DiVerifyConf tx other)) = refl
  for_level block.Lqh (Epoch (DiVerifyConf tx other)) = refl
  for_level of (Epoch (DiVerifyConf tx other)) = refl
  for_level of body = refl

  pub calm_level : (h : ℕ) (x : Signal) → is_calm h (signal_at epoch x) ≡ is_calm h x
  calm_level h x = ap (λ b. has_block h x.to.block && b) (for_level x.to.block x.body)
