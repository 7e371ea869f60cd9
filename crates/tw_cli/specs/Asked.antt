-- What a command line asks for, in the order of the checks: the settings, the words that need no task, then the server.
use Rattle.std.specs.Prelude.{◌≡◌, ◌⊎◌, ◌≤◌, ℕ, Bool, true, false, List, [], map, string_bytes, String, Option, Some, None, Result, Ok, Err}
use Rattle.std.specs.Global.{Vec, Global}
use Rattle.std.specs.Borrow.{Bor}
use Rattle.tw_world.specs.declared.Moment.{Moment}
use Rattle.tw_time.specs.declared.zone.Zone.{Zone}
use Rattle.tw_http.specs.Messages.{IsHost}
use Rattle.tw_terms.specs.declared.token.Token.{Token}
use Rattle.tw_words.specs.Lines.{Parts, parts_of_line}
use Rattle.tw_settings.specs.Settings.{Pair, settings_in}
use Rattle.tw_settings.specs.Servers.{server_set}
use Rattle.tw_words.specs.Faults.{judged, number_behind}
use Rattle.tw_settings.specs.declared.server.ServerSettings.{ServerSettings}
use Rattle.tw_words.specs.declared.command.AnyCommand.{AnyCommand}
use Rattle.tw_words.specs.declared.command.AnyCommand.TheVariants as command
use Rattle.tw_settings.specs.declared.word_error.WordError.{WordError}
use Rattle.tw_settings.specs.declared.word_error.WordError.TheVariants as wrong
use Rattle.tw_cli.specs.Driving.{is_driving}
use Rattle.tw_cli.specs.declared.asked.Job.{Job}
use Rattle.tw_cli.specs.declared.asked.Job.TheVariants.{Here, Sync, Generate}
use Rattle.tw_cli.specs.declared.asked.LineError.{LineError}
use Rattle.tw_cli.specs.declared.asked.LineError.TheVariants.{Words, NoServer}

-- a sync, if a server is known
abbrev pub syncing : Option ServerSettings → Result Job LineError
syncing None = Err NoServer
syncing (Some server) = Ok (Sync server)

-- what a line asks for, by its command: one over tasks is over the store, `sync` is with the server that the settings name, and `_generate` is in memory.
-- No input is read yet
abbrev pub job_by : AnyCommand → Parts → List Token → List Pair → Moment → Bor Zone → Result Job LineError
job_by (command.Tasks over) line filter settings now zone =
    Ok (Here (record { command = over; line = line; filter = filter; settings = settings; at = now; zone = zone; input = [] }))
job_by command.Sync line filter settings now zone = syncing (server_set settings)
job_by command.Generate line filter settings now zone = Ok (Generate line settings)

-- what a line asks for, once its words are judged
abbrev pub job_judged : Parts → List Pair → Moment → Bor Zone → Result (List Token) WordError → Result Job LineError
job_judged line settings now zone (Err error) = Err (Words error)
job_judged line settings now zone (Ok filter) = job_by line.command line filter settings now zone

-- what a line asks for, once its settings are read
abbrev pub job_set : Parts → Moment → Bor Zone → Result (List Pair) WordError → Result Job LineError
job_set line now zone (Err error) = Err (Words error)
job_set line now zone (Ok settings) = job_judged line settings now zone (judged line now.seconds zone.now)

-- what a line asks for with these bytes of settings, after which its overrides count
abbrev pub job_of : Parts → (settings : List ℕ) → Moment → Bor Zone → Result Job LineError
job_of line settings now zone = job_set line now zone (settings_in settings line.overrides)

-- what is asked for by these words, or why nothing is done
unfoldable pub asked_by : Vec (String Global) → (settings : Vec ℕ) → Moment → Bor Zone → Result Job LineError
asked_by words settings now zone = job_of (parts_of_line (map string_bytes words.items)) settings.items now zone

-- this was found to be asked for, or memory ran out
abbrev pub IsAsked : Result Job LineError → Result Job LineError → Type 0
IsAsked asked found = (found ≡ asked) ⊎ (found ≡ Err (Words wrong.Memory))

-- a sync names its server as a message may
abbrev pub HasHost : Result Job LineError → Type 0
HasHost (Ok (Here request)) = Unit {0}
HasHost (Ok (Sync server)) = IsHost server.host
HasHost (Ok (Generate line settings)) = Unit {0}
HasHost (Err error) = Unit {0}

-- a world has at most 10,000 tasks
abbrev pub HasFew : Result Job LineError → Type 0
HasFew (Ok (Here request)) = Unit {0}
HasFew (Ok (Sync server)) = Unit {0}
HasFew (Ok (Generate line settings)) = number_behind line 0 ≤ 10000
HasFew (Err error) = Unit {0}

-- whether the store is needed
abbrev pub needs_store : Result Job LineError → Bool
needs_store (Ok (Here request)) = true
needs_store (Ok (Sync server)) = true
needs_store (Ok (Generate line settings)) = false
needs_store (Err error) = false

-- whether the store of hours is
abbrev pub needs_hours : Result Job LineError → Bool
needs_hours (Ok (Here request)) = is_driving request
needs_hours (Ok (Sync server)) = false
needs_hours (Ok (Generate line settings)) = false
needs_hours (Err error) = false
