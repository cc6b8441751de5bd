-- How a log of its own is opened for a client, and what the client is sent if that can't be done;
-- this project's profile.
use Rattle.std.specs.Prelude.{◌≡◌, ◌≢◌, ℕ}
use Rattle.mc_model.specs.declared.fault.Fault.{Fault}
use Rattle.mc_model.specs.declared.fault.Fault.TheVariants.{Memory}
use Rattle.mc_model.specs.declared.reply.Reply.TheVariants.{Refused}
use Rattle.mc_model.specs.declared.reply.TheConstants.WireNo.{OUT_OF_MEMORY}
use Rattle.mc_model.specs.declared.settings.Limits.{Limits}
use Rattle.mc_programs.specs.Serving.{settings_alone}
use Rattle.mc_stream.specs.Pushing.{PushesAtOnce}
use Rattle.mc_stream.specs.Stream.{Outflow}
use Rattle.mc_write.specs.Text.{text}
use Rattle.uc_log.specs.declared.log.Log.{Log}
use Rattle.uc_log.specs.declared.pass.Pass.{Pass}
use Rattle.uc_log.specs.Passes.{IsNew}

-- a log with one worker, for one tenant, and the worker's pass, which was never used
abbrev pub IsOpened : Limits → ℕ → Log → Pass → Type 0
IsOpened limits places log pass = (log.settings ≡ settings_alone limits places) × IsNew log 0 pass

-- that memory ran out is reported, as far as the output takes it at once, and no other fault is
abbrev pub RefusesToOpen : Fault → Outflow → Outflow → Type 0
RefusesToOpen fault before after =
    (fault ≡ Memory → PushesAtOnce (text (Refused OUT_OF_MEMORY)) before after)
    × (fault ≢ Memory → after ≡ before)
