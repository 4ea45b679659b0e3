use Rattle.scapconf.specs.declared.settings_error.SettingsError.{SettingsError}
use Rattle.scapconf.specs.declared.settings_error.SettingsError.TheVariants as errors
use Rattle.scapconf.specs.declared.status.Status.{Status}
use Rattle.scapconf.specs.declared.status.Status.TheVariants as statuses

-- the status of a command whose settings were refused
abbrev pub status_for : SettingsError → Status
status_for errors.Memory = statuses.Memory
status_for (errors.Fault line kind) = statuses.Settings line kind
