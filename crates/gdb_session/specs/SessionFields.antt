-- No public clause cites this file. What the fields of a session stand for, and which requests it answers by one packet.
use Rattle.std.specs.Prelude.{ℕ, ◌<◌, Bool, List, refl}
use Rattle.std.specs.Coded.{Coded, code_by, coded×, coded_ℕ, coded_bool, coded_list}
use Rattle.gdb_wire.specs.declared.request.Request.{Request}
use Rattle.gdb_wire.specs.declared.request.Request.TheVariants.{Move, Kill}
use Rattle.run_timeline.specs.Moves.{Run, StopList, CameForward}
use Rattle.run_timeline.specs.WalkState.{run_code}
use Rattle.run_timeline.specs.declared.ranges.Range.{Range}
use Rattle.gdb_session.specs.declared.server.ServeFault.{ServeFault}
use Rattle.gdb_session.specs.declared.server.ServeFault.TheVariants as fault
use Rattle.gdb_session.specs.declared.server.TalkFault.{TalkFault}
use Rattle.gdb_session.specs.declared.server.TalkFault.TheVariants as talk
use Rattle.gdb_session.specs.declared.session.Session.TheInside.{Inside}
use Rattle.gdb_session.specs.Debugger.{Debugger}

abbrev pub debugger : Inside → Debugger
debugger s = record { run = s.timeline.run; place = s.timeline.place; stops = s.stops; acks = s.acks; quiet = s.quiet }

-- how a debugger is told from another: as the tuple of its fields
abbrev pub range_code : Coded Range
range_code = code_by (ℕ × ℕ) (coded× coded_ℕ coded_ℕ) (λ r. (r.start, r.length)) (λ p. record { start = p.0; length = p.1 }) (λ _. refl)

abbrev pub stops_code : Coded StopList
stops_code =
    code_by (List ℕ × List Range) (coded× (coded_list coded_ℕ) (coded_list range_code))
    (λ s. (s.addresses, s.ranges)) (λ p. record { addresses = p.0; ranges = p.1 }) (λ _. refl)

abbrev pub debugger_code : Coded Debugger
debugger_code =
    code_by (Run × (ℕ × (StopList × (Bool × Bool))))
    (coded× run_code (coded× coded_ℕ (coded× stops_code (coded× coded_bool coded_bool))))
    (λ d. (d.run, (d.place, (d.stops, (d.acks, d.quiet))))) (λ p. record { run = p.0; place = p.1.0; stops = p.1.1.0; acks = p.1.1.1.0; quiet = p.1.1.1.1 })
    (λ _. refl)

-- it neither moves nor kills
abbrev pub IsAnswered : Request → Type 0
IsAnswered (Move motion) = ⊥
IsAnswered Kill = ⊥
IsAnswered _ = Unit {0}

-- a move forward that began before the place has come to it
abbrev pub CameHere : Debugger → Type 0
CameHere d = (p : ℕ) × (p < d.place) × CameForward d.run d.stops p d.place

-- what ends a conversation where an answer can't go
abbrev pub serve_fault : TalkFault → ServeFault
serve_fault talk.Line = fault.Line
serve_fault talk.Memory = fault.Memory
