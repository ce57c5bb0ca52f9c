pub mod Ranges
pub mod Setting
pub mod Search
pub mod Ends
pub mod Law
pub mod Walk
pub mod Usb
pub mod UsbLaw
pub mod UsbWalk
-- The statements of the theorems.
pub mod Near
