-- From the start of a run to the link that it was given.
use Rattle.std.proofs.Common.{Result, Ok, Err}
use Rattle.tw_world.specs.Disk.{DiskModel, Tells}
use Rattle.tw_protocol.specs.Chain.{Grows}
use Rattle.tw_http.specs.Link.{LinkModel}
use Rattle.tw_sync.specs.Start.{Start, IsSoundStart}
use Rattle.tw_sync.specs.Start.Start.{Base}
use Rattle.tw_sync.proofs.Beginnings.{begun_honest, begun_grows}
use Rattle.tw_sync.proofs.Served.{grows_same}
use Rattle.tw_cli.specs.Whole.{IsHonestFor, IsSoundFor, FromStart}
use Rattle.tw_cli.specs.declared.asked.Job.{Job}
use Rattle.tw_cli.specs.declared.asked.Job.TheVariants.{Here, Sync, Generate}
use Rattle.tw_cli.specs.declared.asked.LineError.{LineError}
use Rattle.tw_cli.specs.declared.cause.Cause.{Cause}

module _ {D L : Type 0} (m : DiskModel D) (links : LinkModel L) (d0 : D) (l0 l1 : L) (cause : Cause) where
  -- what follows from the start of a run, at it
  pub from_start : (asked : Result Job LineError) (P Q : Start → L → Type 0) → ((start : Start) (begun : L) → P start begun → Q start begun)
      → FromStart m links asked d0 l0 l1 cause P → FromStart m links asked d0 l0 l1 cause Q
  from_start (Ok (Here request)) P Q f p = f Base l0 p
  from_start (Ok (Sync server)) P Q f (s, p, asks) = (s, f s.start s.begun p, asks)
  from_start (Ok (Generate line settings)) P Q f p = f Base l0 p
  from_start (Err error) P Q f p = f Base l0 p

  -- an honest link is honest at the start too, its chain has grown until then, and a snapshot is sound
  pub record IsSoundAt (asked : Result Job LineError) (start : Start) (begun : L) : Type 0 where
    pub honest : IsHonestFor links asked begun
    pub grows : Grows (links.chain l0) (links.chain begun)
    pub sound : IsSoundStart start (links.chain l1)

  -- what follows from it, of a server that returns what was written
  pub if_sound : (asked : Result Job LineError) (P : Start → L → Type 0) (Q : Type 0) → Tells m d0 → IsHonestFor links asked l0 → IsSoundFor m links asked d0 l0 l1
      → ((start : Start) (begun : L) → IsSoundAt asked start begun → P start begun → Q) → FromStart m links asked d0 l0 l1 cause P → Q
  if_sound (Ok (Here request)) P Q tells honest sound f p = f Base l0 (record { honest = honest; grows = grows_same (links.chain l0); sound = tt }) p
  if_sound (Ok (Sync server)) P Q tells honest sound f (s, p, asks) =
      f s.start s.begun
      (record {
        honest = begun_honest links server.client server.host s.state l0 s.begun s.start s.begins honest;
        grows = begun_grows links server.client server.host s.state l0 s.begun s.start s.begins honest;
        sound = s.sound tells sound;
      })
      p
  if_sound (Ok (Generate line settings)) P Q tells honest sound f p = f Base l0 (record { honest = honest; grows = grows_same (links.chain l0); sound = tt }) p
  if_sound (Err error) P Q tells honest sound f p = f Base l0 (record { honest = honest; grows = grows_same (links.chain l0); sound = tt }) p
